-- What a seat of a board knows, and the words in which that is said.
use Rattle.std.specs.Prelude.{◌≡◌, ℕ, ◌<◌, ◌≤◌, ◌⊎◌, ◌==◌, nat_lt, if◌then◌else◌, max, List, [], ◌∷◌, ◌++◌, map, length, Option, Some, None}
use Rattle.sf_crew.specs.Common.{BookData, QuestionData, HasHit, IsRightOn, IsRightWhereGiven, Clear, Doubt, BoardKey, EnteredSheet, Note, View}

-- the exploration whose regions a board is about
abbrev pub regions_of : BoardKey → BookData
regions_of k = k.settled.value

-- the questions that a board is about, in order
abbrev pub questions_of : BoardKey → List QuestionData
questions_of k = map (λ q. q.value) k.questions.items

-- the number of regions; as a least place it says that there is none
abbrev pub count_of_regions : BoardKey → ℕ
count_of_regions k = length (regions_of k).regions

-- an entered sheet of a job, with doubts for these questions
abbrev pub entered_sheet : ℕ → List ℕ → EnteredSheet
entered_sheet j ds = record { job = j; doubts = ds }

-- a note: the least place of question q was r when the seat looked, so it is r or less from then on
abbrev pub note : ℕ → ℕ → Note
note q r = record { question = q; place = r }

-- the job that a seat owes a sheet for
abbrev pub owed_jobs : Option ℕ → List ℕ
owed_jobs None = []
owed_jobs (Some j) = j ∷ []

-- the jobs of the sheets that a seat, and those joined into it, have entered
abbrev pub entered_jobs : View → List ℕ
entered_jobs v = map (λ e. e.job) v.entered_sheets

-- the jobs that a seat has drawn: it owes one of them at most, and has entered the others
abbrev pub jobs : View → List ℕ
jobs v = owed_jobs v.owes ++ entered_jobs v

-- 1 where x stands in the list, else 0
abbrev pub has : ℕ → List ℕ → ℕ
has x [] = 0
has x (y ∷ ys) = max (if x == y then 1 else 0) (has x ys)

-- 1 where one of the sheets has a doubt for question q, else 0
abbrev pub has_doubt : ℕ → List EnteredSheet → ℕ
has_doubt q [] = 0
has_doubt q (e ∷ es) = max (has q e.doubts) (has_doubt q es)

-- a place was noted for the question
abbrev pub Noted : List Note → ℕ → ℕ → Type 0
Noted [] q r = ⊥
Noted (n ∷ ns) q r = ((n.question ≡ q) × (n.place ≡ r)) ⊎ Noted ns q r

-- region r has a member that breaks question q, or r stands for "none"
abbrev pub RightPlace : BoardKey → ℕ → ℕ → Type 0
RightPlace k q r = (r ≡ count_of_regions k) ⊎ ((r < count_of_regions k) × HasHit (regions_of k) (questions_of k) r q)

-- the verdict on region r is a doubt for question q
abbrev pub IsInDoubt : BoardKey → ℕ → ℕ → Type 0
IsInDoubt k r q = IsRightWhereGiven (regions_of k) (questions_of k) r q (Some Doubt)

-- The sheet is of a region that there is. For each question a place at or below the region was noted, or the verdict is
-- clear, or the sheet has a doubt for it. The doubts are right.
pub record Covered (k : BoardKey) (notes : List Note) (e : EnteredSheet) : Type 0 where
  pub there : e.job < count_of_regions k
  pub cleared : (q : ℕ) → q < length (questions_of k) → ((r : ℕ) × Noted notes q r × (r ≤ e.job))
      ⊎ IsRightOn (regions_of k) (questions_of k) e.job q Clear ⊎ (has q e.doubts ≡ 1)
  pub doubts : (q : ℕ) → has q e.doubts ≡ 1 → IsInDoubt k e.job q

-- how often x stands in a list that has each number below n once
abbrev pub once_below : ℕ → ℕ → ℕ
once_below x n = if nat_lt x n then 1 else 0

-- the greatest value of f for one of the views; 0 where there is none
abbrev pub top : (View → ℕ) → List View → ℕ
top f [] = 0
top f (v ∷ vs) = max (f v) (top f vs)

-- 1 where a seat has marked question q, now or on an entered sheet, else 0
abbrev pub doubt_at : ℕ → View → ℕ
doubt_at q v = max (has q v.marked) (has_doubt q v.entered_sheets)
