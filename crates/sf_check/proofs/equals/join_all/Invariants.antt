use Rattle.sf_check.proofs.Common.{AreJoined}
use Rattle.sf_check.proofs.equals.join_all.Given as goal

abbrev pub invariant-loop-place : goal.invariant-loop-place
invariant-loop-place l = AreJoined l.insns l.chains l.steps l.lasts l.place
