use Rattle.sf_needed.proofs.Common.{◌≡◌, ◌+◌, ◌++◌, drop, map, view, finding_documents}
use Rattle.sf_needed.proofs.document.finding_documents.Given as goal

abbrev pub invariant-loop-place : goal.invariant-loop-place
invariant-loop-place l = map view l.documents.items ++ finding_documents (l.place + 1) (drop l.place l.findings)
    ≡ finding_documents 1 l.findings
