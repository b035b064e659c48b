use Rattle.sf_profile.proofs.Common.{◌≡◌, ◌++◌, take, string_bytes, flat_map, set_words}
use Rattle.sf_profile.proofs.telling.push_sets.Given as goal

abbrev pub invariant-loop-set : goal.invariant-loop-set
invariant-loop-set l =
    string_bytes l.text ≡ string_bytes l.initial.text ++ flat_map set_words (take l.set-index l.sets)
