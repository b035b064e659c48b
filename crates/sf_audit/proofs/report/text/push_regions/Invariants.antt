use Rattle.sf_audit.proofs.Common.{◌≡◌, ◌+◌, ◌++◌, drop, string_bytes, region_lines}
use Rattle.sf_audit.proofs.report.text.push_regions.Given as goal

abbrev pub invariant-loop-i : goal.invariant-loop-i
invariant-loop-i l = string_bytes l.text ++ region_lines (l.i + 1) (drop l.i l.settled.regions)
    ≡ string_bytes l.initial.text ++ region_lines 1 l.settled.regions
