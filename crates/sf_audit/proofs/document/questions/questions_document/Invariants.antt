use Rattle.sf_audit.proofs.Common.{◌≡◌, ◌++◌, drop, map, view, question_documents, telling_data}
use Rattle.sf_audit.proofs.document.questions.questions_document.Given as goal

abbrev pub invariant-loop-i : goal.invariant-loop-i
invariant-loop-i l = map view l.documents.items
    ++ question_documents (telling_data l.telling) l.expected l.i (drop l.i l.questions) (drop l.i l.replies)
    ≡ question_documents (telling_data l.telling) l.expected 0 l.questions l.replies
