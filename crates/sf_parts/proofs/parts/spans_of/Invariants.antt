use Rattle.sf_parts.proofs.Common.{◌≡◌, ◌++◌, map, drop, tree_at, spans_of, run_seen}
use Rattle.sf_parts.proofs.parts.spans_of.Given as goal

abbrev pub invariant-loop-run : goal.invariant-loop-run
invariant-loop-run l =
    l.spans.items
    ++ spans_of (map (run_seen l.store.trees) (drop l.run-index l.runs)) (tree_at l.store.trees l.behind) l.without
    ≡ spans_of (map (run_seen l.store.trees) l.runs) (tree_at l.store.trees l.behind) l.without
