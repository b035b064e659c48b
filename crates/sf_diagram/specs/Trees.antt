-- Decision trees over bits, and what they say of an input.
use Rattle.std.specs.Prelude.{◌≡◌, ◌≢◌, ◌⊎◌, ◌==◌, ℕ, suc, ◌≤◌, Bool, if◌then◌else◌, List}
use Rattle.std.specs.List.{list_any}

-- an input: each variable is true or false
abbrev pub Bits : Type 0
Bits = ℕ → Bool

-- the input in which just these variables are true
abbrev pub bits_with : List ℕ → Bits
bits_with variables variable = list_any (λ v. v == variable) variables

-- a number, or a variable with the tree where it is false and the tree where it is true
pub data Tree : Type 0 where
  Leaf : ℕ → Tree
  Fork : ℕ → Tree → Tree → Tree

-- the number to which an input leads
abbrev pub value : Tree → Bits → ℕ
value (Leaf number) bits = number
value (Fork variable lower higher) bits = if bits variable then value higher bits else value lower bits

-- the tree has these numbers on inputs
pub record HasValues (t : Tree) (f : Bits → ℕ) : Type 0 where
  pub values : (bits : Bits) → value t bits ≡ f bits

-- no variable is less than n, and each is greater than those above it
abbrev pub IsOrderedFrom : ℕ → Tree → Type 0
IsOrderedFrom n (Leaf number) = Unit {0}
IsOrderedFrom n (Fork variable lower higher) =
    (n ≤ variable) × IsOrderedFrom (suc variable) lower × IsOrderedFrom (suc variable) higher

-- each variable is greater than those above it
abbrev pub IsOrderedTree : Tree → Type 0
IsOrderedTree t = IsOrderedFrom 0 t

-- no fork has the same tree on both sides
abbrev pub IsReducedTree : Tree → Type 0
IsReducedTree (Leaf number) = Unit {0}
IsReducedTree (Fork variable lower higher) = (lower ≢ higher) × IsReducedTree lower × IsReducedTree higher

-- the tree that leads to one of two others by a variable: a fork, or, where the two are equal, this one
abbrev pub IsJoined : ℕ → Tree → Tree → Tree → Type 0
IsJoined variable lower higher t = ((lower ≡ higher) × (t ≡ lower))
    ⊎ ((lower ≢ higher) × (t ≡ Fork variable lower higher))
