use Rattle.sf_profile.proofs.Common.{◌≡◌, drop, map, fold, Some, view, with_named, text_in}
use Rattle.sf_profile.proofs.read.push_sets.Given as goal

abbrev pub invariant-loop-value : goal.invariant-loop-value
invariant-loop-value l =
    fold (with_named l.settings) (Some l.initial.sets.items) (map text_in (map view l.items))
    ≡ fold (with_named l.settings) (Some l.sets.items) (map text_in (map view (drop l.value-index l.items)))
