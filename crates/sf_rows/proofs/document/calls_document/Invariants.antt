use Rattle.sf_rows.proofs.Common.{◌≡◌, map, take, view, call_row_document}
use Rattle.sf_rows.proofs.document.calls_document.Given as goal

abbrev pub invariant-loop-row : goal.invariant-loop-row
invariant-loop-row l = map view l.documents.items ≡ map (call_row_document l.subject) (take l.row-index l.row-items)
