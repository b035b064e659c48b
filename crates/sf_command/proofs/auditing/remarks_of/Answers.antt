use Rattle.sf_command.proofs.Common.{arith, string_bytes}
use Rattle.sf_command.proofs.auditing.RemarkLemmas.{more_remarks}
use Rattle.sf_command.proofs.auditing.remarks_of.Goals as goal

pub loop-reply-preserved : goal.loop-reply-preserved
loop-reply-preserved c =
    more_remarks string_bytes c.args.names.now c.args.stack.now c.args.replies.now c.loop-reply.reply-index _ _ _ _
    (omega arith)
    c.in_ok-push.ensures.items c.loop-reply.invariant c.in_ok-remark.ensures.shown
