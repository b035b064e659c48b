use Rattle.sf_audit.proofs.Common.{◌≡◌, drop, has_unexpected}
use Rattle.sf_audit.proofs.expecting.has_unexpected.Given as goal

abbrev pub invariant-loop-i : goal.invariant-loop-i
invariant-loop-i l = has_unexpected l.expected.accepted (drop l.i l.questions) (drop l.i l.replies)
    ≡ has_unexpected l.expected.accepted l.questions l.replies
