use Rattle.sf_crew.proofs.Common.{seat_view, IsSeatOf, SkipsOnlyIn}
use Rattle.sf_crew.proofs.sweeping.look_at_word.Given as goal

abbrev pub invariant-loop-left : goal.invariant-loop-left
invariant-loop-left l = record {
  seat : IsSeatOf l.board l.seat;
  skips : SkipsOnlyIn l.word l.job (seat_view l.initial.seat) (seat_view l.seat) l.wanted;
}

abbrev pub decreases-loop-left : goal.decreases-loop-left
decreases-loop-left l = l.left
