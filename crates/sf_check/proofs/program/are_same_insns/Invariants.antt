use Rattle.sf_check.proofs.Common.{◌≡◌, take}
use Rattle.sf_check.proofs.program.are_same_insns.Given as goal

abbrev pub invariant-loop-i : goal.invariant-loop-i
invariant-loop-i l = take l.i l.a ≡ take l.i l.b
