-- Words that depend on the input, as diagrams of their bits.
use Rattle.std.specs.Prelude.{◌≡◌, ℕ, ◌+◌, ◌*◌, ◌<◌, List, [], ◌∷◌, length, slice_index, Result, IfErr}
use Rattle.sf_behaviour.specs.Common.{Tree, Bits, value, StoreData, KeepsStore, IsFull, tree_at, Fault, Spent}

-- what a call does to a store: each node stays, and there is no room for more where it fails with `Spent`
abbrev pub Grows : {T : Type 0} → Result T Fault → StoreData → StoreData → Type 0
Grows result old new = KeepsStore old new × IfErr result (λ e. e ≡ Spent → IsFull new)

-- the number whose bits the diagrams are on an input, the lowest bit first
abbrev pub word_value : List Tree → List ℕ → Bits → ℕ
word_value ts [] bits = 0
word_value ts (id ∷ ids) bits = value (tree_at ts id) bits + 2 * word_value ts ids bits

-- a diagram that is there, and is 0 or 1 on each input
pub record IsTruth (ts : List Tree) (id : ℕ) : Type 0 where
  pub within : id < length ts
  pub small : (bits : Bits) → value (tree_at ts id) bits < 2

-- such a diagram, with these values
pub record IsTruthOf (ts : List Tree) (id : ℕ) (f : Bits → ℕ) : Type 0 where
  pub truth : IsTruth ts id
  pub values : (bits : Bits) → value (tree_at ts id) bits ≡ f bits

-- a diagram that is there, with these values
pub record IsDiagramOf (ts : List Tree) (id : ℕ) (f : Bits → ℕ) : Type 0 where
  pub within : id < length ts
  pub values : (bits : Bits) → value (tree_at ts id) bits ≡ f bits

-- 32 diagrams that are 0 or 1: the bits of a word
pub record IsWord (ts : List Tree) (ids : List ℕ) : Type 0 where
  pub count : length ids ≡ 32
  pub each : (i : ℕ) → i < 32 → IsTruth ts (slice_index ids i)

-- a word with these numbers
pub record IsWordOf (ts : List Tree) (ids : List ℕ) (f : Bits → ℕ) : Type 0 where
  pub word : IsWord ts ids
  pub values : (bits : Bits) → word_value ts ids bits ≡ f bits
