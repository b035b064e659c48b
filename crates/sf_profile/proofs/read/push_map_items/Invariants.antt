use Rattle.sf_profile.proofs.Common.{◌≡◌, drop, map, fold, Some, flat_map, view, item_sets, with_named}
use Rattle.sf_profile.proofs.read.push_map_items.Given as goal

abbrev pub invariant-loop-value : goal.invariant-loop-value
invariant-loop-value l =
    fold (with_named l.settings) (Some l.initial.sets.items) (flat_map (item_sets l.settings) (map view l.items))
    ≡ fold (with_named l.settings) (Some l.sets.items)
    (flat_map (item_sets l.settings) (map view (drop l.value-index l.items)))
