use Rattle.sf_rows.proofs.Common.{◌≡◌, map, take, view, row_document}
use Rattle.sf_rows.proofs.document.row_documents.Given as goal

abbrev pub invariant-loop-row : goal.invariant-loop-row
invariant-loop-row l = map view l.documents.items ≡ map (row_document l.subject l.sets) (take l.row-index l.rows)
