use Rattle.sf_crew.proofs.Common.{true≢false, sym, ◌∙◌, inr, arith}
use Rattle.sf_crew.proofs.sweeping.replying.Replies.{reply_never, reply_unsettled}
use Rattle.sf_crew.proofs.sweeping.replying.reply_without_hit.Goals as goal

pub returns-then-doubt : goal.returns-then-doubt
returns-then-doubt c = reply_unsettled _ _ _ c.outstanding_count-left.ensures.lawful c.requires.unbroken
    (inr (c.requires.doubtful c.if-doubt.true))
    (λ plain. absurd (true≢false (sym c.if-doubt.true ∙ c.requires.plain plain)))

pub returns-else-left-gt0 : goal.returns-else-left-gt0
returns-else-left-gt0 c = reply_never _ _ _ c.outstanding_count-left.ensures.lawful
    (omega (arith, c.if-left-gt0.false, c.outstanding_count-left.ensures.value)) c.if-doubt.false c.requires.unbroken
