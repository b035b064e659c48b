use Rattle.sf_audit.proofs.Common.{◌≡◌, ◌++◌, drop, map, string_bytes, deviation_lines}
use Rattle.sf_audit.proofs.expecting.push_questions.Given as goal

abbrev pub invariant-loop-i : goal.invariant-loop-i
invariant-loop-i l = string_bytes l.text
    ++ deviation_lines (map string_bytes l.accepted) (drop l.i l.questions) (drop l.i l.replies)
    ≡ string_bytes l.initial.text ++ deviation_lines (map string_bytes l.accepted) l.questions l.replies
