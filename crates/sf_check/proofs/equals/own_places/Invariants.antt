use Rattle.sf_check.proofs.Common.{AreOwn}
use Rattle.sf_check.proofs.equals.own_places.Given as goal

abbrev pub invariant-loop-place : goal.invariant-loop-place
invariant-loop-place l = AreOwn l.places.items l.place
