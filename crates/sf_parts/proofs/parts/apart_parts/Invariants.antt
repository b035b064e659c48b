use Rattle.sf_parts.proofs.Common.{◌≡◌, ◌<◌, length, map, take, All, span_part, part_seen, run_seen}
use Rattle.sf_parts.proofs.parts.apart_parts.Given as goal

abbrev pub invariant-loop-run : goal.invariant-loop-run
invariant-loop-run l = record {
  kept : All (λ p. p.behind < length l.store.trees) l.parts.items;
  parts : map (part_seen l.store.trees) l.parts.items
      ≡ map (λ r. span_part l.mask r.first r.last r.behind) (map (run_seen l.store.trees) (take l.run-index l.runs));
}
