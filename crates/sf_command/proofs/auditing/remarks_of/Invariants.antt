use Rattle.sf_command.proofs.Common.{map, string_bytes, take, AreRemarks}
use Rattle.sf_command.proofs.auditing.remarks_of.Given as goal

abbrev pub invariant-loop-reply : goal.invariant-loop-reply
invariant-loop-reply l = AreRemarks l.names l.stack (take l.reply-index l.replies) (map string_bytes l.remarks.items)
