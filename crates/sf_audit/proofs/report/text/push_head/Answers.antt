use Rattle.sf_audit.proofs.Common.{on_ok_weaker, added_three}
use Rattle.sf_audit.proofs.report.text.push_head.Goals as goal

pub returns : goal.returns
returns c = on_ok_weaker c.push_counts.result
    (λ e. added_three _ _ _ _ _ _ _ c.in_ok-push_str.ensures.bytes c.in_ok-push_size.ensures
    (rw c.counts.ensures.counts at e)) c.push_counts.ensures
