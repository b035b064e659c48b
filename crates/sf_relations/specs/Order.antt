-- The order of inputs, in which an example is the least.
use Rattle.std.specs.Prelude.{◌≡◌, ℕ, ◌+◌, ◌<◌, Bool, true, false}
use Rattle.sf_relations.specs.Common.{Input, input_bits}

-- A bit of an input, where its 512 bits are one number: first the bits of the architecture, then those of the number of
-- the call, of the arguments and of the instruction pointer; of two halves the upper one first, and of each word the
-- highest bit.
abbrev pub bit_in_order : Input → ℕ → Bool
bit_in_order d place = input_bits d (576 + place)

-- one input comes before another, as a smaller number does: of the first bits that differ, it has the 0
pub record ComesBefore (a b : Input) : Type 0 where
  pub place : ℕ
  pub within : place < 512
  pub lower : bit_in_order a place ≡ false
  pub higher : bit_in_order b place ≡ true
  pub same : (earlier : ℕ) → earlier < place → bit_in_order a earlier ≡ bit_in_order b earlier
