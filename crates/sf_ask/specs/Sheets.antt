-- Sheets of verdicts: what contracts see of one, and when it is right.
use Rattle.std.specs.Prelude.{◌≡◌, ℕ, if◌then◌else◌, ◌<◌, not, Bool, true, false, List, length, map, Option, Some, None, slice_get, slice_index_or}
use Rattle.sf_ask.specs.Common.{range_with_len, Input, IsPlain, BookData, Verdict, Clear, Hit, Doubt, QuestionData}
use Rattle.sf_ask.specs.QuestionBits.{has_bit}
use Rattle.sf_ask.specs.Judging.{HasVerdictAt}
use Rattle.sf_ask.specs.Verdicts.{IsRightVerdict, TellsTriedAt, IsDecisive}

-- a sheet: the regions and questions that it is of, the place of its region, and for each question a verdict or none
pub record SheetData : Type 0 where
  pub settled : BookData
  pub questions : List QuestionData
  pub job : ℕ
  pub verdicts : List (Option Verdict)

-- the verdict on a question; one that was skipped has none
abbrev pub verdict_at : List (Option Verdict) → ℕ → Option Verdict
verdict_at verdicts q = slice_index_or verdicts q None

-- no verdict stands for the question
abbrev pub is_skipped : Option Verdict → Bool
is_skipped None = true
is_skipped (Some v) = false

-- the verdict has a member that breaks the question
abbrev pub is_hit : Option Verdict → Bool
is_hit None = false
is_hit (Some Clear) = false
is_hit (Some (Hit d)) = true
is_hit (Some Doubt) = false

-- the verdict leaves it open whether a member breaks the question
abbrev pub is_doubt : Option Verdict → Bool
is_doubt None = false
is_doubt (Some Clear) = false
is_doubt (Some (Hit d)) = false
is_doubt (Some Doubt) = true

-- there is neither a hit nor a doubt
abbrev pub is_clear_or_skipped : Option Verdict → Bool
is_clear_or_skipped None = true
is_clear_or_skipped (Some Clear) = true
is_clear_or_skipped (Some (Hit d)) = false
is_clear_or_skipped (Some Doubt) = false

-- a verdict that is clear on a question that is asked for, and none on another
abbrev pub clear_if_wanted : List ℕ → ℕ → Option Verdict
clear_if_wanted wanted q = if has_bit wanted q then Some Clear else None

-- the verdicts on the first n questions: clear on each that is asked for, and none on another
abbrev pub first_verdicts : List ℕ → ℕ → List (Option Verdict)
first_verdicts wanted n = map (clear_if_wanted wanted) (range_with_len 0 n)

-- the verdicts of a sheet: those that are listed; where there is no list, clear on each question that is asked for
abbrev pub shown_verdicts : List ℕ → ℕ → Option (List (Option Verdict)) → List (Option Verdict)
shown_verdicts wanted n None = first_verdicts wanted n
shown_verdicts wanted n (Some listed) = listed

-- On the region at a place, the verdict on question number q is right, tells what was tried, and is that of the rules;
-- on a plain stack it is no doubt.
pub record IsRightOn (s : BookData) (questions : List QuestionData) (place q : ℕ) (v : Verdict) : Type 0 where
  pub question : QuestionData
  pub asked : slice_get questions q ≡ Some question
  pub right : IsRightVerdict s place question v
  pub tried : TellsTriedAt s place question v
  pub rule : HasVerdictAt s place question v
  pub decisive : IsPlain s.stack → IsDecisive v

-- on the region at a place, the verdict on question number q is a hit
abbrev pub HasHit : BookData → List QuestionData → ℕ → ℕ → Type 0
HasHit s questions place q = (d : Input) × IsRightOn s questions place q (Hit d)

-- the verdict on each question whose bit isn't set is clear
abbrev pub AreClearBut : BookData → List QuestionData → ℕ → List ℕ → Type 0
AreClearBut s questions place bits =
    (q : ℕ) → q < length questions → has_bit bits q ≡ false → IsRightOn s questions place q Clear

-- a verdict is right where there is one
abbrev pub IsRightWhereGiven : BookData → List QuestionData → ℕ → ℕ → Option Verdict → Type 0
IsRightWhereGiven s questions place q None = Unit {0}
IsRightWhereGiven s questions place q (Some v) = IsRightOn s questions place q v

-- a sheet is right: its region is there, and each of its verdicts is right
pub record IsRightSheet (s : SheetData) : Type 0 where
  pub there : s.job < length s.settled.regions
  pub each : length s.verdicts ≡ length s.questions
  pub right : (q : ℕ) → q < length s.questions
      → IsRightWhereGiven s.settled s.questions s.job q (verdict_at s.verdicts q)

-- a verdict stands exactly for each question that is asked for
abbrev pub HasWanted : List ℕ → SheetData → Type 0
HasWanted wanted s = (q : ℕ) → q < length s.questions → is_skipped (verdict_at s.verdicts q) ≡ not (has_bit wanted q)
