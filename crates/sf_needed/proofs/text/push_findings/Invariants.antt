use Rattle.sf_needed.proofs.Common.{◌≡◌, ◌+◌, ◌++◌, drop, string_bytes, finding_lines}
use Rattle.sf_needed.proofs.text.push_findings.Given as goal

abbrev pub invariant-loop-place : goal.invariant-loop-place
invariant-loop-place l = string_bytes l.text ++ finding_lines (l.place + 1) (drop l.place l.findings)
    ≡ string_bytes l.initial.text ++ finding_lines 1 l.findings
