use Rattle.sf_parts.proofs.Common.{◌≡◌, ◌<◌, ◌++◌, ◌∷◌, [], length, map, drop, All, tree_at, behinds_after, run_seen}
use Rattle.sf_parts.proofs.parts.behinds_of.Given as goal

abbrev pub invariant-loop-run : goal.invariant-loop-run
invariant-loop-run l = record {
  kept : All (λ b. b < length l.store.trees) l.known.items;
  so_far : map (tree_at l.store.trees) l.known.items
      ++ behinds_after (tree_at l.store.trees l.rest ∷ map (tree_at l.store.trees) l.known.items)
      (map (run_seen l.store.trees) (drop l.run-index l.runs))
      ≡ behinds_after (tree_at l.store.trees l.rest ∷ []) (map (run_seen l.store.trees) l.runs);
}
