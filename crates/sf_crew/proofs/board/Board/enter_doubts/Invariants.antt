use Rattle.sf_crew.proofs.Common.{◌≡◌, with_marks, MarksDoubts}
use Rattle.sf_crew.proofs.board.Board.enter_doubts.Given as goal

abbrev pub invariant-loop-q : goal.invariant-loop-q
invariant-loop-q l = record {
  table : l.seat.table_id ≡ l.initial.seat.table_id;
  carried : l.seat.me.1 ≡ l.initial.seat.me.1;
  view : l.seat.me.0 ≡ with_marks l.initial.seat.me.0 l.seat.me.0.marked;
  marks : MarksDoubts l.sheet.verdicts l.q l.initial.seat.me.0.marked l.seat.me.0.marked;
}
