-- Which instructions of a program some path comes to.
use Rattle.std.specs.Prelude.{◌≡◌, ◌↔◌, ℕ, Bool, true, false, List, [], ◌∷◌, length, slice_index_or, slice_set}
use Rattle.sf_check.specs.declared.insn.Insn.{Insn}
use Rattle.sf_check.specs.Programs.{IsPath}

-- some path through the program comes to the instruction at a place
abbrev pub IsOnSomePath : List Insn → ℕ → Type 0
IsOnSomePath code at = (earlier : List ℕ) × IsPath code (at ∷ earlier)

-- just the instructions are found to which some path comes
pub record AreReached (code : List Insn) (found : List Bool) : Type 0 where
  pub count : length found ≡ length code
  pub reached : (at : ℕ) → (slice_index_or found at false ≡ true) ↔ IsOnSomePath code at

-- what is found after each of some places was found
abbrev pub with_found : List ℕ → List Bool → List Bool
with_found [] found = found
with_found (q ∷ qs) found = with_found qs (slice_set found q true)
