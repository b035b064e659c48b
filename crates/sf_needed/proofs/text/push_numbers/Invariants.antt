use Rattle.sf_needed.proofs.Common.{◌≡◌, ◌+◌, ◌++◌, ◌∷◌, take, string_bytes, flat_map, decimal}
use Rattle.sf_needed.proofs.text.push_numbers.Given as goal

abbrev pub invariant-loop-place : goal.invariant-loop-place
invariant-loop-place l = string_bytes l.text ≡ string_bytes l.initial.text
    ++ flat_map (λ p. 32 ∷ decimal (p + 1)) (take l.place-index l.kept)
