-- What entering one verdict more, and a whole sheet, does to a seat.
use Rattle.sf_crew.proofs.Common.{common_steps, ◌≡◌, ℕ, ◌+◌, ◌⊎◌, List, ◌∷◌, length, true, Option, Some, ⊎_elim, arith, Verdict, Clear, Doubt, BookData, QuestionData, SheetData, is_hit, is_doubt, is_skipped, IsRightOn, IsRightWhereGiven, IsRightSheet, BoardKey, View, Note, Covered, entered_sheet, view_of, with_notes, with_marks, IsDoubt, MarksDoubts, AreDoubts, NotesHits, IsSheetFor}
use Rattle.sf_crew.proofs.Doubts.{has_same, has_other, has_most}

pub marks_same : (vs : List (Option Verdict)) (n : ℕ) (old new : List ℕ) → (IsDoubt vs n → ⊥) → MarksDoubts vs n old new
    → MarksDoubts vs (n + 1) old new
marks_same vs n old new none h = search arith

pub marks_more : (vs : List (Option Verdict)) (n : ℕ) (old new : List ℕ) → IsDoubt vs n → MarksDoubts vs n old new
    → MarksDoubts vs (n + 1) old (n ∷ new)
marks_more vs n old new is h = search (arith, has_most, has_same, has_other)

-- each verdict is a hit, a doubt, or there is none; or it is clear
verdict_cases : (s : BookData) (qs : List QuestionData) (r q : ℕ) (v : Option Verdict) → IsRightWhereGiven s qs r q v
    → (is_hit v ≡ true) ⊎ (is_doubt v ≡ true) ⊎ (is_skipped v ≡ true) ⊎ IsRightOn s qs r q Clear
verdict_cases s qs r q v h = grind (arith, common_steps)

-- a verdict that is a doubt is right as `Doubt`
doubt_right : (s : BookData) (qs : List QuestionData) (r q : ℕ) (v : Option Verdict) → IsRightWhereGiven s qs r q v
    → is_doubt v ≡ true → IsRightWhereGiven s qs r q (Some Doubt)
doubt_right s qs r q v h is = grind (arith, common_steps)

pub covers : (k : BoardKey) (v : View) (s : SheetData) (ds : List ℕ) (ns : List Note) → IsSheetFor k v s
    → IsRightSheet s → NotesHits s.verdicts s.job (length s.questions) v.notes ns → AreDoubts s ds
    → Covered k ns (entered_sheet s.job ds)
covers k v s ds ns f right notes marks = grind (arith, common_steps, ⊎_elim, verdict_cases, doubt_right)

-- a seat's view before the last step of entering: its notes and its marks are new
pub marked_view : (v m w : View) → m ≡ with_notes v m.notes → w ≡ with_marks m w.marked
    → w ≡ view_of v.about v.joined_seats v.exhausted_seats v.owes w.marked v.entered_sheets m.notes
marked_view v m w noted marked = grind (arith, common_steps)
