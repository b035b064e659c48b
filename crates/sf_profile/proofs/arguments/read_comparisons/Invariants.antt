use Rattle.sf_profile.proofs.Common.{◌≡◌, take, map, fold, None, flat_map, view, read_comparison, read_of, with_flaw}
use Rattle.sf_profile.proofs.arguments.read_comparisons.Given as goal

abbrev pub invariant-loop-value : goal.invariant-loop-value
invariant-loop-value l = record {
  list : l.list.items ≡ flat_map read_of (map read_comparison (map view (take l.value-index l.items)));
  flaw : l.flaw ≡ fold with_flaw None (map read_comparison (map view (take l.value-index l.items)));
}
