use Rattle.sf_rows.proofs.Common.{◌≡◌, map, string_bytes, string, view}
use Rattle.sf_rows.proofs.document.text_documents.Given as goal

abbrev pub invariant-loop-text : goal.invariant-loop-text
invariant-loop-text l = map view l.documents.items ≡ map string (map string_bytes l.yielded)
