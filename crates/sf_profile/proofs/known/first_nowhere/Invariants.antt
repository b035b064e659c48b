use Rattle.sf_profile.proofs.Common.{◌≡◌, drop, map, list_all, view, is_somewhere, text_in}
use Rattle.sf_profile.proofs.known.first_nowhere.Given as goal

abbrev pub invariant-loop-value : goal.invariant-loop-value
invariant-loop-value l =
    list_all (is_somewhere l.settings) (map text_in (map view l.names))
    ≡ list_all (is_somewhere l.settings) (map text_in (map view (drop l.value-index l.names)))
