use Rattle.sf_trace.proofs.Common.{◌≡◌, ℕ, length, map, slice_get, Some, Data, view, IsFilterAt}
use Rattle.sf_trace.proofs.document.listing.filter_documents.Given as goal

abbrev pub invariant-loop-i : goal.invariant-loop-i
invariant-loop-i l = record {
  many : length (map view l.documents.items) ≡ l.i;
  each : (place : ℕ) (d : Data) → slice_get (map view l.documents.items) place ≡ Some d
      → IsFilterAt l.listed l.programs place d;
}
