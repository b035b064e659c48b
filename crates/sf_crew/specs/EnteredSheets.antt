-- What entering a sheet does to a seat.
use Rattle.std.specs.Prelude.{◌≡◌, true, ℕ, ◌<◌, ◌≤◌, ◌⊎◌, List, [], ◌∷◌, length, Option, Some, None}
use Rattle.sf_crew.specs.Common.{Verdict, SheetData, verdict_at, is_hit, is_doubt, is_skipped, BoardKey, Note, View}
use Rattle.sf_crew.specs.Views.{regions_of, questions_of, Noted, has, entered_sheet}
use Rattle.sf_crew.specs.BoardSteps.{view_of}

-- the verdict on question q is a hit
abbrev pub IsHit : List (Option Verdict) → ℕ → Type 0
IsHit vs q = is_hit (verdict_at vs q) ≡ true

-- the verdict on question q is a doubt
abbrev pub IsDoubt : List (Option Verdict) → ℕ → Type 0
IsDoubt vs q = is_doubt (verdict_at vs q) ≡ true

-- there is no verdict on question q
abbrev pub IsSkipped : List (Option Verdict) → ℕ → Type 0
IsSkipped vs q = is_skipped (verdict_at vs q) ≡ true

-- no mark is lost, the questions in doubt among the first n are marked, and only these are newly marked
pub record MarksDoubts (vs : List (Option Verdict)) (n : ℕ) (old new : List ℕ) : Type 0 where
  pub more : (q : ℕ) → has q old ≤ has q new
  pub doubts : (q : ℕ) → q < n → IsDoubt vs q → has q new ≡ 1
  pub only : (q : ℕ) → has q new ≡ 1 → (has q old ≡ 1) ⊎ ((q < n) × IsDoubt vs q)

-- exactly the questions that a sheet has a doubt for, in any order
abbrev pub AreDoubts : SheetData → List ℕ → Type 0
AreDoubts s qs = MarksDoubts s.verdicts (length s.questions) [] qs

-- no note is lost, the hits among the first n verdicts are noted at the job, and only these are newly noted
pub record NotesHits (vs : List (Option Verdict)) (job n : ℕ) (old new : List Note) : Type 0 where
  pub more : (q r : ℕ) → Noted old q r → Noted new q r
  pub hits : (q : ℕ) → q < n → IsHit vs q → Noted new q job
  pub only : (q r : ℕ) → Noted new q r → Noted old q r ⊎ ((r ≡ job) × (q < n) × IsHit vs q)

-- the sheet is of the board's regions and questions, for the job that the seat owes, and skips only questions for which
-- the seat has seen a lower place
pub record IsSheetFor (k : BoardKey) (v : View) (s : SheetData) : Type 0 where
  pub regions : s.settled ≡ regions_of k
  pub questions : s.questions ≡ questions_of k
  pub job : v.owes ≡ Some s.job
  pub skips : (q : ℕ) → q < length (questions_of k) → IsSkipped s.verdicts q → (r : ℕ) × Noted v.notes q r × (r < s.job)

-- the seat owes nothing more, has entered one more sheet with its doubts, has noted its hits, and has no marks left
abbrev pub Enters : View → SheetData → View → Type 0
Enters v s w = (ds : List ℕ) × AreDoubts s ds × NotesHits s.verdicts s.job (length s.questions) v.notes w.notes
    × (w ≡ view_of v.about v.joined_seats v.exhausted_seats None [] (entered_sheet s.job ds ∷ v.entered_sheets) w.notes)
