use Rattle.sf_command.proofs.Common.{◌≡◌, ◌++◌, drop, string_bytes, source_lines}
use Rattle.sf_command.proofs.sources.push_sources.Given as goal

abbrev pub invariant-loop-path : goal.invariant-loop-path
invariant-loop-path l = string_bytes l.text ++ source_lines l.role (drop l.path-index l.paths)
    ≡ string_bytes l.initial.text ++ source_lines l.role l.paths
