use Rattle.sf_profile.proofs.Common.{◌≡◌, take, map, flat_map, view, text_in, calls_named}
use Rattle.sf_profile.proofs.naming.calls_of.Given as goal

abbrev pub invariant-loop-value : goal.invariant-loop-value
invariant-loop-value l =
    l.calls.items ≡ flat_map (calls_named l.settings l.set l.compares_nothing)
    (map text_in (map view (take l.value-index l.names)))
