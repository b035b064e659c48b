use Rattle.sf_json.proofs.Common.{◌≡◌, false, items_view, items_have_float}
use Rattle.sf_json.proofs.document.values_of.Given as goal

abbrev pub invariant-loop-document : goal.invariant-loop-document
invariant-loop-document l =
    (l.values.items ≡ l.yielded) × (items_have_float (items_view l.values.items) ≡ false)
