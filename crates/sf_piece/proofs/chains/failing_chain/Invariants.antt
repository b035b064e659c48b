use Rattle.sf_piece.proofs.Common.{◌-◌, ◌≤◌, length, IsOver}
use Rattle.sf_piece.proofs.chains.failing_chain.Given as goal

abbrev pub invariant-loop-skips : goal.invariant-loop-skips
invariant-loop-skips l = record {
  over : IsOver l.fn.run l.count l.behind;
  few : l.count ≤ l.behind;
}

abbrev pub decreases-loop-skips : goal.decreases-loop-skips
decreases-loop-skips l = length l.code - l.behind
