use Rattle.sf_audit.proofs.Common.{made_of_four}
use Rattle.sf_audit.proofs.report.text.report_of.Goals as goal

pub returns : goal.returns
returns c =
    made_of_four _ _ _ _ _ _ _ _ _ c.new-text.ensures.bytes
    (rw (c.settled.ensures, c.questions.ensures.same) at c.in_ok-push_head.ensures)
    (rw (c.questions-2.ensures.same, c.replies.ensures.same) at c.in_ok-push_questions.ensures)
    (rw c.settled-2.ensures at c.in_ok-push_regions.ensures)
    (rw c.replies-2.ensures.same at c.in_ok-push_totals.ensures)
