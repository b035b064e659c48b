use Rattle.sf_audit.proofs.Common.{◌≡◌, ◌++◌, drop, map, view, control_documents}
use Rattle.sf_audit.proofs.document.expectations.control_documents.Given as goal

abbrev pub invariant-loop-i : goal.invariant-loop-i
invariant-loop-i l = map view l.documents.items ++ control_documents (drop l.i l.questions) (drop l.i l.replies)
    ≡ control_documents l.questions l.replies
