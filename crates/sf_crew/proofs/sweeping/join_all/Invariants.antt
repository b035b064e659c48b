use Rattle.sf_crew.proofs.Common.{◌≡◌, ◌+◌, ◌<◌, vec_len, None, All, Knows, seat_view, IsSeatOf, IsWorked}
use Rattle.sf_crew.proofs.sweeping.join_all.Given as goal

abbrev pub invariant-loop-seat : goal.invariant-loop-seat
invariant-loop-seat l = record {
  seat : IsSeatOf l.board l.all;
  free : (seat_view l.all).owes ≡ None;
  joined_seats : (seat_view l.all).joined_seats + vec_len l.others ≡ (seat_view l.initial.all).joined_seats
      + vec_len l.initial.others;
  others : All (λ s. IsWorked l.board s) l.others.items;
  knows : vec_len l.others < vec_len l.initial.others → (0 < (seat_view l.all).exhausted_seats)
      × Knows (seat_view l.all);
}

abbrev pub decreases-loop-seat : goal.decreases-loop-seat
decreases-loop-seat l = vec_len l.others
