use Rattle.sf_rows.proofs.Common.{◌≡◌, map, take, view, range_document}
use Rattle.sf_rows.proofs.document.range_documents.Given as goal

abbrev pub invariant-loop-span : goal.invariant-loop-span
invariant-loop-span l = map view l.documents.items ≡ map range_document (take l.span-index l.spans)
