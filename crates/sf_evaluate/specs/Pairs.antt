-- Two lists whose elements belong together, place by place.
use Rattle.std.specs.Prelude.{◌≡◌, ℕ, List, length, slice_get, Some}

-- two lists of one length, in which a relation holds at each place
pub record Pairwise {X Y : Type 0} (Holds : X → Y → Type 0) (xs : List X) (ys : List Y) : Type 0 where
  pub same : length ys ≡ length xs
  pub each : (n : ℕ) (x : X) → slice_get xs n ≡ Some x → (y : Y) × (slice_get ys n ≡ Some y) × Holds x y
