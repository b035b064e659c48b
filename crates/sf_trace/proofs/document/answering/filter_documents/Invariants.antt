use Rattle.sf_trace.proofs.Common.{◌≡◌, map, take, view, filter_document}
use Rattle.sf_trace.proofs.document.answering.filter_documents.Given as goal

abbrev pub invariant-loop-run : goal.invariant-loop-run
invariant-loop-run l = map view l.documents.items ≡ map (filter_document l.brief) (take l.run-index l.runs)
