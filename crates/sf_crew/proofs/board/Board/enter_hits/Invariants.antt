use Rattle.sf_crew.proofs.Common.{◌≡◌, with_notes, NotesHits}
use Rattle.sf_crew.proofs.board.Board.enter_hits.Given as goal

abbrev pub invariant-loop-q : goal.invariant-loop-q
invariant-loop-q l = record {
  table : l.seat.table_id ≡ l.initial.seat.table_id;
  carried : l.seat.me.1 ≡ l.initial.seat.me.1;
  view : l.seat.me.0 ≡ with_notes l.initial.seat.me.0 l.seat.me.0.notes;
  notes : NotesHits l.sheet.verdicts l.sheet.job l.q l.initial.seat.me.0.notes l.seat.me.0.notes;
}
