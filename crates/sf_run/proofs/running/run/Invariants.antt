use Rattle.sf_run.proofs.Common.{◌≡◌, List, Some, ℕ, ◌-◌, length, Bool, return_of, run_for, state_of, IsReachable}
use Rattle.sf_run.proofs.running.run.Given as goal

abbrev pub invariant-loop-next : goal.invariant-loop-next
invariant-loop-next l = record {
  safe : IsReachable l.code (state_of l.place l.machine);
  same : (n : ℕ) (o : List Bool × ℕ) → run_for n l.code l.fn.input (state_of l.place l.machine) ≡ Some o
      → o.1 ≡ return_of l.code l.fn.input;
}

abbrev pub decreases-loop-next : goal.decreases-loop-next
decreases-loop-next l = length l.code - l.place
