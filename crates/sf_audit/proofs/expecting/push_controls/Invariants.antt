use Rattle.sf_audit.proofs.Common.{◌≡◌, ◌++◌, drop, string_bytes, control_lines}
use Rattle.sf_audit.proofs.expecting.push_controls.Given as goal

abbrev pub invariant-loop-i : goal.invariant-loop-i
invariant-loop-i l = string_bytes l.text ++ control_lines (drop l.i l.questions) (drop l.i l.replies)
    ≡ string_bytes l.initial.text ++ control_lines l.questions l.replies
