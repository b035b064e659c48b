use Rattle.sf_crew.proofs.Common.{◌≡◌, ℕ, ◌<◌, length, bit_of, with_notes, Noted, seat_view, IsSeatOf}
use Rattle.sf_crew.proofs.sweeping.Skips.{HasLowerHit}
use Rattle.sf_crew.proofs.sweeping.look_at.Given as goal

abbrev pub invariant-loop-word : goal.invariant-loop-word
invariant-loop-word l = record {
  seat : IsSeatOf l.board l.seat;
  long : length l.wanted ≡ 4;
  same : seat_view l.seat ≡ with_notes (seat_view l.initial.seat) (seat_view l.seat).notes;
  more : (q r : ℕ) → Noted (seat_view l.initial.seat).notes q r → Noted (seat_view l.seat).notes q r;
  skips : (q : ℕ) → q < 256 → bit_of l.wanted q ≡ 0 → HasLowerHit l.job (seat_view l.seat).notes q;
}
