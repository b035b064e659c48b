-- An audit as JSON. Each field is always there: one that doesn't apply is null.
use Rattle.std.specs.Prelude.{ℕ, ◌+◌, ◌==◌, Bool, List, [], ◌∷◌, codes, count_by, length, map, slice_get, string_bytes, unwrap_or, if◌then◌else◌}
use Rattle.sf_audit.specs.Common.{Data, boolean, null, string, view, NamesData, RegionData, counts_of, QuestionData, Reply, Never, Allowed, Unsettled, answer_document, count, counts_document, fields, input_document, list_of, sizes_document, Telling}
use Rattle.sf_audit.specs.Outcomes.{Found}
use Rattle.sf_audit.specs.Reports.{is_allowed, is_never, is_unsettled, letter, remark_at}
use Rattle.sf_audit.specs.Expectations.{ExpectedData, does_hold, is_accepted, is_unexpected}

-- How an audit is told: whether its regions are told, and whether it is told what was expected; the names of calls with
-- which inputs are told; and for each question where it stands, and the remark on it.
pub record TellingData : Type 0 where
  pub regions : Bool
  pub is_expecting : Bool
  pub names : List NamesData
  pub origins : List Data
  pub remarks : List (List ℕ)

-- the same, by the values of the code
abbrev pub telling_data : Telling → TellingData
telling_data t = record {
  regions = t.regions;
  is_expecting = t.is_expecting;
  names = t.names.now;
  origins = map view t.origins.now;
  remarks = map string_bytes t.remarks.now;
}

-- ---- questions

-- the word of a reply
abbrev pub reply_word : Reply → List ℕ
reply_word Never = codes "never"
reply_word (Allowed input) = codes "allowed"
reply_word Unsettled = codes "unsettled"

-- the example of a reply; null where it has none
abbrev pub example_of : List NamesData → Reply → Data
example_of names (Allowed input) = input_document names input
example_of names _ = null

-- the lines of a remark as one text; null where there are none
abbrev pub remark_document : List ℕ → Data
remark_document text = if length text == 0 then null else string text

-- where the question at a place stands, counted from 0; null where that isn't told
abbrev pub origin_of : List Data → ℕ → Data
origin_of origins place = unwrap_or (slice_get origins place) null

-- the question at a place: whether its name is an accepted one, whether it is allowed and not accepted, its reply with
-- an example, where it stands, and the remark on it
abbrev pub question_document : TellingData → ExpectedData → ℕ → List ℕ → Reply → Data
question_document t e place name reply = fields (
    (codes "accepted", boolean (is_accepted e.accepted name))
    ∷ (codes "example", example_of t.names reply)
    ∷ (codes "name", string name)
    ∷ (codes "number", count (place + 1))
    ∷ (codes "origin", origin_of t.origins place)
    ∷ (codes "reply", string (reply_word reply))
    ∷ (codes "unexpected", boolean (is_unexpected e.accepted name reply))
    ∷ (codes "why", remark_document (remark_at t.remarks place)) ∷ [])

-- questions, each with its reply; the first of the questions stands at this place
abbrev pub question_documents : TellingData → ExpectedData → ℕ → List QuestionData → List Reply → List Data
question_documents t e place (q ∷ qs) (r ∷ rs) =
    question_document t e place q.name r ∷ question_documents t e (place + 1) qs rs
question_documents t e place _ _ = []

-- ---- what was expected

-- a question of the control, with its reply
abbrev pub control_document : List ℕ → Reply → Data
control_document name reply =
    fields ((codes "name", string name) ∷ (codes "reply", string (reply_word reply)) ∷ [])

-- the questions of the control, each with its reply
abbrev pub control_documents : List QuestionData → List Reply → List Data
control_documents (q ∷ qs) (r ∷ rs) = control_document q.name r ∷ control_documents qs rs
control_documents _ _ = []

-- the control and whether it holds, where this is shown; null where it isn't
abbrev pub shown_expected : Bool → ExpectedData → Data
shown_expected shown e =
    if shown then fields (
    (codes "control", list_of (control_documents e.control e.held))
    ∷ (codes "holds", boolean (does_hold e.held)) ∷ [])
    else null

-- ---- regions

-- a region: its number, its truth values by T and F, and the answer to its members
abbrev pub region_document : ℕ → RegionData → Data
region_document number r = fields (
    (codes "answer", answer_document r.answer)
    ∷ (codes "name", string (map letter r.name))
    ∷ (codes "number", count number) ∷ [])

-- regions, the first of them with this number
abbrev pub region_documents : ℕ → List RegionData → List Data
region_documents number [] = []
region_documents number (r ∷ rs) = region_document number r ∷ region_documents (number + 1) rs

-- the regions, where they are asked for; null where they aren't
abbrev pub shown_regions : Bool → List RegionData → Data
shown_regions shown rs = if shown then list_of (region_documents 1 rs) else null

-- ---- the whole

-- how many questions have each kind of reply
abbrev pub totals_document : List Reply → Data
totals_document rs = fields (
    (codes "allowed", count (count_by is_allowed rs))
    ∷ (codes "never", count (count_by is_never rs))
    ∷ (codes "unsettled", count (count_by is_unsettled rs)) ∷ [])

-- an audit: the size of the stack, the counts of the exploration, the questions, what was expected, the regions and the
-- totals
abbrev pub audit_document : TellingData → ExpectedData → Found → Data
audit_document t e o = fields (
    (codes "counts", counts_document (counts_of o.settled))
    ∷ (codes "expected", shown_expected t.is_expecting e)
    ∷ (codes "questions", list_of (question_documents t e 0 o.questions o.replies))
    ∷ (codes "regions", shown_regions t.regions o.settled.regions)
    ∷ (codes "seccomp_audit", string (codes "audit"))
    ∷ (codes "stack", sizes_document o.settled.stack)
    ∷ (codes "totals", totals_document o.replies)
    ∷ (codes "version", count 1) ∷ [])
