use Rattle.sf_audit.proofs.Common.{◌≡◌, ◌++◌, drop, map, names_of}
use Rattle.sf_audit.proofs.summary.lists.names_of.Given as goal

abbrev pub invariant-loop-row : goal.invariant-loop-row
invariant-loop-row l = map (λ t. t.now) l.names.items ++ names_of l.place l.kind (drop l.row-index l.rows)
    ≡ names_of l.place l.kind l.rows
