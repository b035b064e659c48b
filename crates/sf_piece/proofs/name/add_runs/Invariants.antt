use Rattle.sf_piece.proofs.Common.{◌≡◌, ◌++◌, take, spelled}
use Rattle.sf_piece.proofs.name.add_runs.Given as goal

abbrev pub invariant-loop-place : goal.invariant-loop-place
invariant-loop-place l = l.values.items ≡ l.initial.values.items ++ spelled (take l.place l.runs) 0
