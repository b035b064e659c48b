use Rattle.sf_calls.proofs.Common.{◌≡◌, ◌++◌, drop, string_bytes, arguments_words}
use Rattle.sf_calls.proofs.text.push_arguments.Given as goal

abbrev pub invariant-loop-place : goal.invariant-loop-place
invariant-loop-place l = string_bytes l.text ++ arguments_words l.place (drop l.place l.arguments)
    ≡ string_bytes l.initial.text ++ arguments_words 0 l.arguments
