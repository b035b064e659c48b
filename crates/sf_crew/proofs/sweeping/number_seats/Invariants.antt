use Rattle.sf_crew.proofs.Common.{◌≡◌, ◌+◌, All, vec_len, IsNewSeat}
use Rattle.sf_crew.proofs.sweeping.number_seats.Given as goal

abbrev pub invariant-loop-seat : goal.invariant-loop-seat
invariant-loop-seat l = record {
  seats : All (λ s. IsNewSeat l.board s) l.seats.items;
  numbered_seats : All (λ p. IsNewSeat l.board p.seat) l.numbered_seats.items;
  count : vec_len l.numbered_seats + vec_len l.seats ≡ vec_len l.initial.seats;
}

abbrev pub decreases-loop-seat : goal.decreases-loop-seat
decreases-loop-seat l = vec_len l.seats
