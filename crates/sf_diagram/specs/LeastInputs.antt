-- The first input to which a tree gives another number than 0.
use Rattle.std.specs.Prelude.{◌≡◌, ◌≢◌, ℕ, ◌<◌, true, false}
use Rattle.sf_diagram.specs.Trees.{Tree, Bits, value}

-- one input comes before another: of the first variable at which they differ it has false
abbrev pub IsEarlierInput : Bits → Bits → Type 0
IsEarlierInput a b = (v : ℕ) × (a v ≡ false) × (b v ≡ true) × ((w : ℕ) → w < v → a w ≡ b w)

-- a tree gives this input another number than 0, and 0 to each input before it
pub record IsLeastNonzero (t : Tree) (least : Bits) : Type 0 where
  pub some : value t least ≢ 0
  pub first : (bits : Bits) → IsEarlierInput bits least → value t bits ≡ 0
