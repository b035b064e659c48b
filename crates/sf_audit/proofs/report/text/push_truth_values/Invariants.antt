use Rattle.sf_audit.proofs.Common.{◌≡◌, ◌++◌, map, take, string_bytes, letter}
use Rattle.sf_audit.proofs.report.text.push_truth_values.Given as goal

abbrev pub invariant-loop-value : goal.invariant-loop-value
invariant-loop-value l = string_bytes l.text ≡ string_bytes l.initial.text
    ++ map letter (take l.value-index l.name)
