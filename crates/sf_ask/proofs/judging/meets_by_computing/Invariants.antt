use Rattle.sf_ask.proofs.Common.{◌≡◌, true, take, list_all, is_met}
use Rattle.sf_ask.proofs.judging.meets_by_computing.Given as goal

abbrev pub invariant-loop-i : goal.invariant-loop-i
invariant-loop-i l = list_all (is_met l.piece.pool l.input) (take l.i l.piece.conditions) ≡ true
