use Rattle.sf_rows.proofs.Common.{◌≡◌, map, take, flat_map, tree_at, NamesData, rows_if_wanted}
use Rattle.sf_rows.proofs.calls.call_rows.Given as goal

abbrev pub invariant-loop-names : goal.invariant-loop-names
invariant-loop-names l = l.rows.items
    ≡ flat_map (λ (n : NamesData). flat_map (rows_if_wanted (map (λ t. t.now) l.wanted) l.source.subject
    (tree_at l.source.store.now.trees l.source.id) n) n.calls)
    (take l.names-index l.sets)
