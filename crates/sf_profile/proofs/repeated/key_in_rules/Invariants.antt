use Rattle.sf_profile.proofs.Common.{AreReadBack}
use Rattle.sf_profile.proofs.repeats.RepeatLemmas.{from}
use Rattle.sf_profile.proofs.repeated.key_in_rules.Given as goal

abbrev pub invariant-loop-rule : goal.invariant-loop-rule
invariant-loop-rule l = AreReadBack (from l.rules l.rule-index)
