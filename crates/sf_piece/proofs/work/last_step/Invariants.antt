use Rattle.sf_piece.proofs.Common.{IsLawfulPiece, IsContinuation, work_left, HasGoneFor}
use Rattle.sf_piece.proofs.work.last_step.Given as goal

abbrev pub invariant-loop-last : goal.invariant-loop-last
invariant-loop-last l = record {
  is_on : IsContinuation l.fn.run l.run;
  lawful : IsLawfulPiece l.run;
  goes : HasGoneFor l.fn.run l.run;
}

abbrev pub decreases-loop-last : goal.decreases-loop-last
decreases-loop-last l = work_left l.run
