use Rattle.sf_check.proofs.equals.EqualLemmas.{Gathered}
use Rattle.sf_check.proofs.equals.keys_of.Given as goal

abbrev pub invariant-loop-place : goal.invariant-loop-place
invariant-loop-place l = Gathered l.insns l.chains l.keys.items l.place
