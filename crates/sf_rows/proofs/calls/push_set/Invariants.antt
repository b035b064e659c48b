use Rattle.sf_rows.proofs.Common.{◌≡◌, ◌++◌, map, take, flat_map, tree_at, rows_if_wanted}
use Rattle.sf_rows.proofs.calls.push_set.Given as goal

abbrev pub invariant-loop-call : goal.invariant-loop-call
invariant-loop-call l = l.into.items ≡ l.initial.into.items
    ++ flat_map (rows_if_wanted (map (λ t. t.now) l.wanted) l.source.subject
    (tree_at l.source.store.now.trees l.source.id) l.names)
    (take l.call-index l.calls)
