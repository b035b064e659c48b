-- What the tally says with which a seat closes a board.
use Rattle.std.specs.Prelude.{◌≡◌, ℕ, ◌<◌, ◌≤◌, ◌⊎◌, ◌==◌, All, count_by, length, Some, slice_get}
use Rattle.sf_crew.specs.Common.{Clear, HasHit, IsRightOn, BoardKey, View, EnteredSheet, Tally, bit_of}
use Rattle.sf_crew.specs.Views.{regions_of, questions_of, count_of_regions, entered_jobs, has, has_doubt, IsInDoubt, once_below}

-- the region j lies below the question's least place, which may be none
abbrev pub IsBelowLeast : Tally → ℕ → ℕ → Type 0
IsBelowLeast t q j = (r : ℕ) → slice_get t.least q ≡ Some (Some r) → j < r

-- the verdict on the entered region is clear, or its sheet has a doubt for the question, and then the question's bit is
-- set
abbrev pub IsCleared : BoardKey → Tally → EnteredSheet → ℕ → Type 0
IsCleared k t e q = IsRightOn (regions_of k) (questions_of k) e.job q Clear
    ⊎ ((has q e.doubts ≡ 1) × (bit_of t.doubts q ≡ 1))

-- a tally is right about what was entered by the seat that closes the board, and by those joined into it
pub record RightTally (k : BoardKey) (v : View) (t : Tally) : Type 0 where
  -- what was entered is the places of regions, each at most once
  pub each_once : (x : ℕ) → count_by (λ j. x == j) (entered_jobs v) ≤ once_below x (count_of_regions k)
  -- the verdict on the region at a least place is a hit
  pub breaks : (q r : ℕ) → slice_get t.least q ≡ Some (Some r) → (r < count_of_regions k)
      × HasHit (regions_of k) (questions_of k) r q
  -- the entered regions below a least place are cleared, and all of them where there is none
  pub cleared : All (λ e. (q : ℕ) → q < length (questions_of k) → IsBelowLeast t q e.job
      → IsCleared k t e q) v.entered_sheets
  -- the doubts of the entered sheets are right
  pub doubts : All (λ e. (q : ℕ) → has q e.doubts ≡ 1 → IsInDoubt k e.job q) v.entered_sheets
  -- at least the entered sheets are counted
  pub counted : length v.entered_sheets ≤ t.entered
  -- where as many sheets are entered as there are regions, each region has one
  pub complete : length v.entered_sheets ≡ count_of_regions k → (x : ℕ)
      → count_by (λ j. x == j) (entered_jobs v) ≡ once_below x (count_of_regions k)
  -- where all seats were joined, each of the 256 bits is set exactly where an entered sheet has a doubt, so none past
  -- the last question, and no other sheet is counted
  pub all_doubts : v.joined_seats ≡ k.seats → (q : ℕ) → q < 256 → bit_of t.doubts q ≡ has_doubt q v.entered_sheets
  pub past : v.joined_seats ≡ k.seats → (q : ℕ) → length (questions_of k) ≤ q → q < 256 → bit_of t.doubts q ≡ 0
  pub all_counted : v.joined_seats ≡ k.seats → t.entered ≡ length v.entered_sheets
