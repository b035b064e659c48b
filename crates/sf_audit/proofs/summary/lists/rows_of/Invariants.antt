use Rattle.sf_audit.proofs.Common.{◌≡◌, ◌++◌, drop, rows_of, summary_data}
use Rattle.sf_audit.proofs.summary.lists.rows_of.Given as goal

abbrev pub invariant-loop-i : goal.invariant-loop-i
invariant-loop-i l = l.rows.items
    ++ rows_of (summary_data l.summary) l.expected l.i (drop l.i l.questions) (drop l.i l.replies)
    ≡ rows_of (summary_data l.summary) l.expected 0 l.questions l.replies
