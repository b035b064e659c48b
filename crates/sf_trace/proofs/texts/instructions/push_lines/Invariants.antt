use Rattle.sf_trace.proofs.Common.{◌≡◌, ◌++◌, drop, string_bytes, insn_lines}
use Rattle.sf_trace.proofs.texts.instructions.push_lines.Given as goal

abbrev pub invariant-loop-place : goal.invariant-loop-place
invariant-loop-place l = string_bytes l.text ++ insn_lines l.found l.place (drop l.place l.code)
    ≡ string_bytes l.initial.text ++ insn_lines l.found 0 l.code
