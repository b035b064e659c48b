use Rattle.sf_audit.proofs.Common.{on_ok_weaker, added_three}
use Rattle.sf_audit.proofs.summary.text.push_totals.Goals as goal

pub returns : goal.returns
returns c = on_ok_weaker c.write-2.result
    (λ e. added_three _ _ _ _ _ _ _ c.in_ok-write.ensures.bytes c.in_ok-push_accepted.ensures e) c.write-2.ensures.bytes
