use Rattle.sf_evaluate.proofs.Common.{◌≡◌, map, string_bytes, take}
use Rattle.sf_evaluate.proofs.words.settings.strings_of.Given as goal

abbrev pub invariant-loop-text : goal.invariant-loop-text
invariant-loop-text l = map string_bytes l.strings.items ≡ map (λ t. t.now) (take l.text-index l.texts)
