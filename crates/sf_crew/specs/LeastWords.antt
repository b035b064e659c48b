-- The least places that a closing call reads.
use Rattle.std.specs.Prelude.{◌≡◌, ℕ, ◌+◌, ◌<◌, List, Option, Some, slice_get, slice_index}

-- a list has for each of m questions the place in its word, where that is the place of one of the n regions, and no
-- place where it isn't
abbrev pub LeastIs : List ℕ → ℕ → ℕ → List (Option ℕ) → Type 0
LeastIs words n m least = ((q r : ℕ) → slice_get least q ≡ Some (Some r) → (q < m) × (r ≡ slice_index words (q + 6))
    × (r < n)) × ((q : ℕ) → q < m → slice_index words (q + 6) < n
    → slice_get least q ≡ Some (Some (slice_index words (q + 6))))
