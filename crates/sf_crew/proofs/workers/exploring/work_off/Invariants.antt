use Rattle.sf_crew.proofs.Common.{◌≡◌, ◌≤◌, IsFree, IsSameExploration}
use Rattle.sf_crew.proofs.workers.exploring.work_off.Given as goal

abbrev pub invariant-loop-call : goal.invariant-loop-call
invariant-loop-call g l = IsFree l.book.outstanding × IsSameExploration l.fn.book l.book × (l.call ≤ l.book.commits)
    × (l.budget ≡ l.book.budget)
