use Rattle.sf_crew.proofs.Common.{◌≡◌, ◌-◌, length, None, count_of_regions, jobs, about, seat_view, IsSeatOf}
use Rattle.sf_crew.proofs.sweeping.work.Given as goal

abbrev pub invariant-loop-job : goal.invariant-loop-job
invariant-loop-job g l = record {
  seat : IsSeatOf l.sweep.board l.seat;
  joined_seats : (seat_view l.seat).joined_seats ≡ (seat_view l.initial.seat).joined_seats;
  free : (seat_view l.seat).owes ≡ None;
}

abbrev pub decreases-loop-job : goal.decreases-loop-job
decreases-loop-job g l = count_of_regions (about l.sweep.board) - length (jobs (seat_view l.seat))
