use Rattle.sf_command.proofs.Common.{◌≡◌, map, string_bytes, take, visible}
use Rattle.sf_command.proofs.usage.visible_words.Given as goal

abbrev pub invariant-loop-word : goal.invariant-loop-word
invariant-loop-word l = map string_bytes l.all.items ≡ map visible (map string_bytes (take l.word-index l.words))
