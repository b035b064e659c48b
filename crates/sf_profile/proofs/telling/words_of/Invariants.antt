use Rattle.sf_profile.proofs.Common.{◌≡◌, map, string_bytes, take, flat_map, name_word}
use Rattle.sf_profile.proofs.telling.words_of.Given as goal

abbrev pub invariant-loop-name : goal.invariant-loop-name
invariant-loop-name l = string_bytes l.text ≡ flat_map name_word (map (λ n. n.now) (take l.name-index l.names))
