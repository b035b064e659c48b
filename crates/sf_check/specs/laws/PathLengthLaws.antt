-- The path length by one sum: 4 more for each program, less 4.
use Rattle.std.proofs.Common.{◌≡◌, ◌+◌, ◌-◌, List, [], ◌∷◌, length, refl, arith}
use Rattle.std.proofs.lemmas.List.Sums.{sum_by-cons}
use Rattle.std.specs.Prelude.{sum_by}
use Rattle.sf_check.specs.Common.{Insn}
use Rattle.sf_check.specs.Stacks.{path_length}

-- where there is a program, the sum of all lengths with 4 more for each is 4 more than the path length
path_and_four : (p : List Insn) (programs : List (List Insn))
    → sum_by (λ p. length p + 4) (p ∷ programs) ≡ path_length (p ∷ programs) + 4
path_and_four p [] = omega arith
path_and_four p (newer ∷ programs) =
    omega (arith, path_and_four newer programs, sum_by-cons (λ (p : List Insn). length p + 4) p (newer ∷ programs))

-- the path length is the sum of all lengths with 4 more for each, less 4, or 0 where there is no program
pub path_length-sum : (programs : List (List Insn)) → sum_by (λ p. length p + 4) programs - 4 ≡ path_length programs
path_length-sum [] = refl
path_length-sum (p ∷ programs) = omega (arith, path_and_four p programs)
