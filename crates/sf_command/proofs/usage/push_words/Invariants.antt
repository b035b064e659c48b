use Rattle.sf_command.proofs.Common.{◌≡◌, ◌++◌, map, string_bytes, take}
use Rattle.sf_command.proofs.usage.push_words.Given as goal

abbrev pub invariant-loop-word : goal.invariant-loop-word
invariant-loop-word l = map string_bytes l.all.items ≡ map string_bytes l.initial.all.items
    ++ map string_bytes (take l.word-index l.words)
