use Rattle.sf_crew.proofs.Common.{◌≡◌, ◌+◌, ◌-◌, ◌≤◌, Some, None, [], All, vec_len, view_of, about, board_id, IsNewSeat}
use Rattle.sf_crew.proofs.board.Board.deal.Given as goal

abbrev pub invariant-loop-given : goal.invariant-loop-given
invariant-loop-given l = record {
  table : l.seat.table_id ≡ board_id l.self;
  me : l.seat.me ≡ (view_of (Some (about l.self)) (l.seats + 1 - l.given) 0 None [] [] [], []);
  most : l.given ≤ l.seats;
  count : vec_len l.dealt + 1 ≡ l.given;
  new : All (λ s. IsNewSeat l.self s) l.dealt.items;
}
