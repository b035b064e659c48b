use Rattle.sf_run.proofs.Common.{◌≡◌, ◌++◌, ◌-◌, ℕ, List, Bool, Some, length, met_by, run_for, state_of, IsReachable}
use Rattle.sf_run.proofs.tracing.push_program.Given as goal

abbrev pub invariant-loop-machine : goal.invariant-loop-machine
invariant-loop-machine l = record {
  safe : IsReachable l.code (state_of l.place l.machine);
  same : (n : ℕ) (o : List Bool × ℕ) → run_for n l.code l.fn.input (state_of l.place l.machine) ≡ Some o
      → l.met.items ++ o.0 ≡ l.fn.met.items ++ met_by l.code l.fn.input;
}

abbrev pub decreases-loop-machine : goal.decreases-loop-machine
decreases-loop-machine l = length l.code - l.place
