use Rattle.sf_profile.proofs.Common.{◌≡◌, drop, calls_left}
use Rattle.sf_profile.proofs.limits.calls_left.Given as goal

abbrev pub invariant-loop-rule : goal.invariant-loop-rule
invariant-loop-rule l = calls_left l.most l.rules ≡ calls_left l.left (drop l.rule-index l.rules)
