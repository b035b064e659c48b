use Rattle.sf_check.proofs.scratch.MaskLemmas.{Known}
use Rattle.sf_check.proofs.scratch.find_unset.Given as goal

abbrev pub invariant-loop-place : goal.invariant-loop-place
invariant-loop-place l = Known l.code l.masks l.place
