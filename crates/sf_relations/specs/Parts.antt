-- The diagrams of the answers of parts of a stack, for contracts between functions of this crate.
use Rattle.std.specs.Prelude.{◌≡◌, ℕ, ◌+◌, ◌-◌, ◌<◌, List, [], ◌∷◌, drop, length, slice_index, slice_index_or}
use Rattle.sf_relations.specs.Common.{Insn, Tree, IsBehaviour}

-- Diagrams of the newest filters of a stack, this many. `alone` are those of each filter alone, the newest first;
-- `last` are those of none of them, of the newest one, of the newest two, and so on.
pub record AreParts (ts : List Tree) (programs : List (List Insn)) (many : ℕ) (alone last : List ℕ) : Type 0 where
  pub alone_count : length alone ≡ many
  pub last_count : length last ≡ many + 1
  pub each_alone : (k : ℕ) → k < many
      → IsBehaviour (slice_index_or programs (length programs - 1 - k) [] ∷ []) ts (slice_index alone k)
  pub each_last : (k : ℕ) → k < many + 1
      → IsBehaviour (drop (length programs - k) programs) ts (slice_index last k)
