use Rattle.sf_rows.proofs.Common.{◌≡◌, ◌++◌, map, call_row}
use Rattle.sf_rows.proofs.calls.push_rows.Given as goal

abbrev pub invariant-loop-row : goal.invariant-loop-row
invariant-loop-row l = l.into.items ≡ l.initial.into.items ++ map (call_row l.names l.call) l.yielded
