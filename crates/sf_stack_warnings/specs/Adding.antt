-- How numbers of calls are added, region after region, for contracts between functions of this crate.
use Rattle.std.specs.Prelude.{◌≡◌, ◌⊎◌, ◌↔◌, ℕ, List, [], ◌∷◌, ◌++◌, Contains, Some, slice_get}
use Rattle.sf_check.specs.Stacks.{IsPlain}
use Rattle.sf_book.specs.Books.{RegionData, BookData}
use Rattle.sf_stack_warnings.specs.ZeroErrors.{zero_error, AreZeroErrors, LeaveNoneOut}

-- two lists have the same numbers
abbrev pub HaveSame : List ℕ → List ℕ → Type 0
HaveSame xs ys = (n : ℕ) → Contains xs n ↔ Contains ys n

-- a number is added behind a list, unless it is in it
abbrev pub IsAddedOnce : ℕ → List ℕ → List ℕ → Type 0
IsAddedOnce n old new = ((new ≡ old) × Contains old n) ⊎ ((new ≡ old ++ n ∷ []) × ¬ Contains old n)

-- the region at a place has another answer than ERRNO 0
abbrev pub IsOtherwiseAt : BookData → ℕ → Type 0
IsOtherwiseAt s place =
    (region : RegionData) → slice_get s.regions place ≡ Some region → ¬ (region.answer ≡ zero_error)

-- the numbers of the regions before a place are added; `seen` has the same numbers
pub record AreAddedBefore (s : BookData) (end : ℕ) (numbers seen : List ℕ) : Type 0 where
  pub found : AreZeroErrors s end numbers
  pub plain : IsPlain s.stack → LeaveNoneOut s end numbers
  pub same : HaveSame seen numbers
