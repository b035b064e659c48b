use Rattle.sf_trace.proofs.Common.{◌≡◌, ◌++◌, take, string_bytes, flat_map, walk_text}
use Rattle.sf_trace.proofs.texts.tracing.push_runs.Given as goal

abbrev pub invariant-loop-run : goal.invariant-loop-run
invariant-loop-run l =
    string_bytes l.text ≡ string_bytes l.initial.text ++ flat_map (walk_text l.brief) (take l.run-index l.runs)
