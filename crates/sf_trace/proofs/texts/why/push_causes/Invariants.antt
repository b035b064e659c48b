use Rattle.sf_trace.proofs.Common.{◌≡◌, ◌++◌, take, string_bytes, flat_map, cause_text}
use Rattle.sf_trace.proofs.texts.why.push_causes.Given as goal

abbrev pub invariant-loop-run : goal.invariant-loop-run
invariant-loop-run l =
    string_bytes l.text ≡ string_bytes l.initial.text ++ flat_map cause_text (take l.run-index l.runs)
