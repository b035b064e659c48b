-- What a build expects of an audit, and what is told of that.
use Rattle.std.specs.Prelude.{◌≡◌, ℕ, Bool, true, false, not, ◌&&◌, List, [], ◌∷◌, ◌++◌, codes, length, if◌then◌else◌}
use Rattle.sf_audit.specs.Common.{list_all, list_any, bytes_eq, QuestionData, Reply, Never, Allowed, Unsettled, line}
use Rattle.sf_audit.specs.Outcomes.{Found}
use Rattle.sf_audit.specs.Reports.{is_allowed}

-- What is expected: that each question of a control is allowed; and that no question of the audit is allowed but those
-- with an accepted name. `held` are the replies to the control.
pub record ExpectedData : Type 0 where
  pub control : List QuestionData
  pub held : List Reply
  pub accepted : List (List ℕ)

-- each question of the control has a reply
pub record IsHeld (e : ExpectedData) : Type 0 where
  pub each : length e.control ≡ length e.held

-- the line of a question of the control: its reply, if it isn't allowed, and no line if it is
abbrev pub control_line : List ℕ → Reply → List ℕ
control_line name Never = line (codes "control" ∷ name ∷ codes "never" ∷ [])
control_line name (Allowed input) = []
control_line name Unsettled = line (codes "control" ∷ name ∷ codes "unsettled" ∷ [])

-- the lines of the questions of the control that aren't allowed
abbrev pub control_lines : List QuestionData → List Reply → List ℕ
control_lines (q ∷ qs) (r ∷ rs) = control_line q.name r ++ control_lines qs rs
control_lines _ _ = []

-- the name is an accepted one
abbrev pub is_accepted : List (List ℕ) → List ℕ → Bool
is_accepted accepted name = list_any (λ n. bytes_eq n name) accepted

-- the line of a question of the audit, if its reply isn't as expected: never for one with an accepted name, which could
-- go then, and allowed for any other
abbrev pub deviation_line : List (List ℕ) → List ℕ → Reply → List ℕ
deviation_line accepted name Never =
    if is_accepted accepted name then line (codes "accepted" ∷ name ∷ codes "never" ∷ []) else []
deviation_line accepted name (Allowed input) =
    if is_accepted accepted name then [] else line (codes "unexpected" ∷ name ∷ [])
deviation_line accepted name Unsettled = []

-- the lines of questions of the audit whose replies aren't as expected
abbrev pub deviation_lines : List (List ℕ) → List QuestionData → List Reply → List ℕ
deviation_lines accepted (q ∷ qs) (r ∷ rs) = deviation_line accepted q.name r ++ deviation_lines accepted qs rs
deviation_lines accepted _ _ = []

-- the lines behind a report that tell what isn't as expected
abbrev pub expected_text : ExpectedData → Found → List ℕ
expected_text e found =
    control_lines e.control e.held ++ deviation_lines e.accepted found.questions found.replies

-- the control holds: each of its questions is allowed
abbrev pub does_hold : List Reply → Bool
does_hold held = list_all is_allowed held

-- a question is allowed, and its name isn't an accepted one
abbrev pub is_unexpected : List (List ℕ) → List ℕ → Reply → Bool
is_unexpected accepted name reply = is_allowed reply && not (is_accepted accepted name)

-- some question is allowed whose name isn't an accepted one
abbrev pub has_unexpected : List (List ℕ) → List QuestionData → List Reply → Bool
has_unexpected accepted (q ∷ qs) (r ∷ rs) =
    if is_unexpected accepted q.name r then true else has_unexpected accepted qs rs
has_unexpected accepted _ _ = false
