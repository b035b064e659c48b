use Rattle.sf_audit.proofs.Common.{◌≡◌, ◌++◌, drop, map, string_bytes, question_lines}
use Rattle.sf_audit.proofs.report.text.push_questions.Given as goal

abbrev pub invariant-loop-i : goal.invariant-loop-i
invariant-loop-i l = string_bytes l.text ++ question_lines l.i (drop l.i l.questions) (drop l.i l.replies)
    (map string_bytes l.remarks)
    ≡ string_bytes l.initial.text ++ question_lines 0 l.questions l.replies (map string_bytes l.remarks)
