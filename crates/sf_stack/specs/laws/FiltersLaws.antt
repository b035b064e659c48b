-- The programs that files spell.
use Rattle.std.proofs.Common.{◌≡◌, ℕ, List, [], ◌∷◌, length, suc, refl, ap}
use Rattle.sf_check.specs.declared.insn.Insn.{Insn}
use Rattle.sf_stack.specs.Filters.{SpellPrograms}

-- one program for each file
pub as_many : (files : List (List ℕ)) (programs : List (List Insn)) → SpellPrograms files programs
    → length programs ≡ length files
as_many [] [] h = refl
as_many (f ∷ files) (g ∷ programs) h = ap suc (as_many files programs h.1)
as_many [] (g ∷ programs) h = absurd h
as_many (f ∷ files) [] h = absurd h
