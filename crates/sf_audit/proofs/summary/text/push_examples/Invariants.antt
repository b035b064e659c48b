use Rattle.sf_audit.proofs.Common.{◌≡◌, ◌++◌, drop, string_bytes, example_lines}
use Rattle.sf_audit.proofs.summary.text.push_examples.Given as goal

abbrev pub invariant-loop-row : goal.invariant-loop-row
invariant-loop-row l = string_bytes l.text ++ example_lines l.names l.place (drop l.row-index l.rows)
    ≡ string_bytes l.initial.text ++ example_lines l.names l.place l.rows
