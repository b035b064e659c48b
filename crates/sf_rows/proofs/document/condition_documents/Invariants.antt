use Rattle.sf_rows.proofs.Common.{◌≡◌, map, take, view, condition_document}
use Rattle.sf_rows.proofs.document.condition_documents.Given as goal

abbrev pub invariant-loop-condition : goal.invariant-loop-condition
invariant-loop-condition l = map view l.documents.items ≡ map condition_document (take l.condition-index l.conditions)
