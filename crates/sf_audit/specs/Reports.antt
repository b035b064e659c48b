-- The text of a report.
use Rattle.std.specs.Prelude.{ℕ, ◌+◌, Bool, true, false, List, [], ◌∷◌, ◌++◌, codes, map, length, count_by, slice_get, unwrap_or, ◌==◌, if◌then◌else◌}
use Rattle.sf_audit.specs.Common.{decimal, path_length, BookData, RegionData, counts_of, QuestionData, Reply, Never, Allowed, Unsettled, action_text, counts_line, hex_text, line}
use Rattle.sf_audit.specs.Outcomes.{Found}

-- what each report begins with, and the number of its form
abbrev pub title_line : List ℕ
title_line = line (codes "seccomp_audit" ∷ codes "report" ∷ codes "2" ∷ [])

-- how many filters, the length of the path through them, and how many questions
abbrev pub size_line : ℕ → ℕ → ℕ → List ℕ
size_line filters path questions =
    line (codes "filters" ∷ decimal filters ∷ codes "path" ∷ decimal path ∷ codes "questions" ∷ decimal questions ∷ [])

-- a question's number and name with its reply, and the bytes of the example where there is one
abbrev pub question_line : ℕ → List ℕ → Reply → List ℕ
question_line number name Never = line (codes "question" ∷ decimal number ∷ name ∷ codes "never" ∷ [])
question_line number name (Allowed input) =
    line (codes "question" ∷ decimal number ∷ name ∷ codes "allowed" ∷ hex_text input ∷ [])
question_line number name Unsettled = line (codes "question" ∷ decimal number ∷ name ∷ codes "unsettled" ∷ [])

-- the remark on the question at a place, counted from 0; empty where it has none
abbrev pub remark_at : List (List ℕ) → ℕ → List ℕ
remark_at remarks place = unwrap_or (slice_get remarks place) []

-- the line of the question at a place, counted from 0, and under it the remark on it
abbrev pub remarked_line : ℕ → List ℕ → Reply → List (List ℕ) → List ℕ
remarked_line place name reply remarks = question_line (place + 1) name reply ++ remark_at remarks place

-- the lines of questions, each with its reply and its remark; the first of the questions stands at this place
abbrev pub question_lines : ℕ → List QuestionData → List Reply → List (List ℕ) → List ℕ
question_lines place (q ∷ qs) (r ∷ rs) remarks =
    remarked_line place q.name r remarks ++ question_lines (place + 1) qs rs remarks
question_lines place _ _ remarks = []

-- T for true and F for false, as bytes
abbrev pub letter : Bool → ℕ
letter true = 84
letter false = 70

-- truth values by T and F; a dash where there are none
abbrev pub name_text : List Bool → List ℕ
name_text name = if length name == 0 then codes "-" else map letter name

-- a region's number and name, and the action and data that it is answered with
abbrev pub region_line : ℕ → RegionData → List ℕ
region_line number r =
    line (codes "region" ∷ decimal number ∷ name_text r.name ∷ action_text r.answer.action
    ∷ decimal r.answer.info ∷ [])

-- a line for each region, the first of them with this number
abbrev pub region_lines : ℕ → List RegionData → List ℕ
region_lines number [] = []
region_lines number (r ∷ rs) = region_line number r ++ region_lines (number + 1) rs

-- the lines of the regions, where they are asked for
abbrev pub shown_lines : Bool → List RegionData → List ℕ
shown_lines shown rs = if shown then region_lines 1 rs else []

-- the reply says that no input breaks the question
abbrev pub is_never : Reply → Bool
is_never Never = true
is_never _ = false

-- the reply has an example that breaks the question
abbrev pub is_allowed : Reply → Bool
is_allowed (Allowed input) = true
is_allowed _ = false

-- the reply leaves it open whether an input breaks the question
abbrev pub is_unsettled : Reply → Bool
is_unsettled Unsettled = true
is_unsettled _ = false

-- the last line of a report: how often each kind of reply was given
abbrev pub total_line : ℕ → ℕ → ℕ → List ℕ
total_line never allowed unsettled =
    line (codes "total" ∷ codes "never" ∷ decimal never ∷ codes "allowed" ∷ decimal allowed ∷ codes "unsettled"
    ∷ decimal unsettled ∷ [])

-- how many questions have each kind of reply
abbrev pub totals_line : List Reply → List ℕ
totals_line rs = total_line (count_by is_never rs) (count_by is_allowed rs) (count_by is_unsettled rs)

-- the lines before those of the questions
abbrev pub head_text : BookData → ℕ → List ℕ
head_text b questions = title_line ++ (size_line (length b.stack) (path_length b.stack) questions
    ++ counts_line (counts_of b))

-- the whole report, with or without its regions, and with remarks on questions
abbrev pub report_text : Found → Bool → List (List ℕ) → List ℕ
report_text o regions remarks =
    head_text o.settled (length o.questions) ++ (question_lines 0 o.questions o.replies remarks
    ++ (shown_lines regions o.settled.regions ++ totals_line o.replies))
