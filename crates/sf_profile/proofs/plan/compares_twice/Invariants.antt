use Rattle.sf_profile.proofs.Common.{◌≡◌, drop, compares_twice}
use Rattle.sf_profile.proofs.plan.compares_twice.Given as goal

abbrev pub invariant-loop-i : goal.invariant-loop-i
invariant-loop-i l = compares_twice l.comparisons ≡ compares_twice (drop l.i l.comparisons)
