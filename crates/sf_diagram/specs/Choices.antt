-- A tree that chooses between two others by a third.
use Rattle.std.specs.Prelude.{ℕ, zero, suc}
use Rattle.sf_diagram.specs.Trees.{Tree, Bits, value, HasValues}

-- the second number where the first is not 0, else the third
abbrev pub chosen_of : ℕ → ℕ → ℕ → ℕ
chosen_of zero taken other = other
chosen_of (suc n) taken other = taken

-- the value of a tree that chooses, on an input
abbrev pub chosen_value : Tree → Tree → Tree → Bits → ℕ
chosen_value test taken other bits = chosen_of (value test bits) (value taken bits) (value other bits)

-- on each input the last tree has the value of `taken` where `test` is not 0, and that of `other` where `test` is 0
abbrev pub IsChosen : Tree → Tree → Tree → Tree → Type 0
IsChosen test taken other t = HasValues t (chosen_value test taken other)
