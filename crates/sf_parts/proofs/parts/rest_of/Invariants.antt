use Rattle.sf_parts.proofs.Common.{◌≡◌, ◌<◌, length, map, drop, longest_of, rest_in, run_seen}
use Rattle.sf_parts.proofs.parts.rest_of.Given as goal

abbrev pub invariant-loop-run : goal.invariant-loop-run
invariant-loop-run l = record {
  within : l.best.behind < length l.store.trees;
  so_far : longest_of (run_seen l.store.trees l.best) (map (run_seen l.store.trees) (drop l.run-index l.runs))
      ≡ rest_in (map (run_seen l.store.trees) l.runs);
}
