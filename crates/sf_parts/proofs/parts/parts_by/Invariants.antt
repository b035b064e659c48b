use Rattle.sf_parts.proofs.Common.{◌≡◌, ◌<◌, false, length, map, take, All, tree_at, part_in, part_seen, run_seen}
use Rattle.sf_parts.proofs.parts.parts_by.Given as goal

abbrev pub invariant-loop-behind : goal.invariant-loop-behind
invariant-loop-behind l = record {
  kept : All (λ p. p.behind < length l.store.trees) l.parts.items;
  parts : map (part_seen l.store.trees) l.parts.items
      ≡ map (part_in l.mask (map (run_seen l.store.trees) l.runs) false)
      (map (tree_at l.store.trees) (take l.behind-index l.behinds));
}
