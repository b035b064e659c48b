use Rattle.sf_trace.proofs.Common.{◌≡◌, ◌-◌, ◌++◌, length, action_number, first_runs, runs_of}
use Rattle.sf_trace.proofs.runs.runs_of.Given as goal

abbrev pub invariant-loop-i : goal.invariant-loop-i
invariant-loop-i l = l.runs.items ++ first_runs (length l.programs - l.i) (action_number l.trace.answer.action)
    l.programs l.trace.input.now l.stood
    ≡ runs_of l.programs l.trace.input.now l.trace.answer
