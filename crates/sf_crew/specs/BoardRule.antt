-- The rule of the board: what holds of its words, and of what its seats know, before and after each step.
use Rattle.std.specs.Prelude.{◌≡◌, ℕ, ◌+◌, ◌<◌, ◌≤◌, min, ◌/◌, ◌%◌, ◌==◌, List, [], All, count_by, sum_by, length, Some, None, slice_index}
use Rattle.sf_crew.specs.Common.{bit_at, some, get_elem?, State, BoardKey, View}
use Rattle.sf_crew.specs.Views.{questions_of, count_of_regions, jobs, Noted, Covered, RightPlace, once_below, top, doubt_at}

-- what holds of what one seat knows (its view), by the words of the board, whatever the other seats know
pub record Sound (k : BoardKey) (next : ℕ) (least : ℕ → ℕ) (v : View) : Type 0 where
  pub about : 0 < v.joined_seats → v.about ≡ Some k
  pub idle : v.joined_seats ≡ 0 → (v.owes ≡ None) × (v.entered_sheets ≡ [])
  pub few : v.exhausted_seats ≤ v.joined_seats
  pub past : 0 < v.exhausted_seats → count_of_regions k ≤ next
  pub marks : v.owes ≡ None → v.marked ≡ []
  pub noted : (q r : ℕ) → Noted v.notes q r → least q ≤ r
  pub covered : All (Covered k v.notes) v.entered_sheets

-- What holds of the words and of all views. The words are: the next job; the number of sheets entered; four with the
-- bits of the questions in doubt; and for each question its least place.
pub record Kept (k : BoardKey) (next entered : ℕ) (doubts least : ℕ → ℕ) (views : List View) : Type 0 where
  pub joined_seats : sum_by (λ v. v.joined_seats) views ≡ k.seats
  pub drawn : (x : ℕ) → sum_by (λ v. count_by (λ j. x == j) (jobs v)) views
      ≡ once_below x (min next (count_of_regions k))
  pub drawn_count : sum_by (λ v. length (jobs v)) views ≡ min next (count_of_regions k)
  pub past_end : next ≤ count_of_regions k + sum_by (λ v. v.exhausted_seats) views
  pub entered_is : sum_by (λ v. length v.entered_sheets) views ≡ entered
  pub marked : (q : ℕ) → q < 256 → bit_at (doubts (q / 64)) (q % 64) ≡ top (doubt_at q) views
  pub right : (q : ℕ) → q < length (questions_of k) → RightPlace k q (least q)
  pub each : (port : ℕ) (v : View) → get_elem? views port ≡ some v → Sound k next least v

-- the least region with a hit that the board has for a question
abbrev pub least_in : List ℕ → ℕ → ℕ
least_in words q = slice_index words (q + 6)

-- one of the four words of the questions in doubt
abbrev pub doubts_in : List ℕ → ℕ → ℕ
doubts_in words w = slice_index words (w + 2)

-- the board's words, and the views of all seats, keep its rule
abbrev pub BoardKept : {S : Type 0} → BoardKey → State S View → Type 0
BoardKept k s = (length s.words ≡ length (questions_of k) + 6)
    × Kept k (slice_index s.words 0) (slice_index s.words 1) (doubts_in s.words) (least_in s.words) s.views
