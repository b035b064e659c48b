-- The files that say what a build expects of an audit: a control, and the questions that may be allowed.
use Rattle.std.specs.Prelude.{◌≡◌, ◌⊎◌, ◌+◌, ◌&&◌, ◌||◌, ℕ, Bool, true, not, if◌then◌else◌, List, [], Option, Some, None, codes}
use Rattle.sf_evaluate.specs.Common.{list_any, IsUtf8, bytes_eq, Row, first_of, QuestionData, Fault, Accepted, Memory, Read, Syntax, AreAccepted, IsMisfitAt, paths_of}
use Rattle.sf_evaluate.specs.Files.{AreKnownBytes}
use Rattle.sf_evaluate.specs.Policies.{IsPolicyFile, RefusesPolicyFile}
use Rattle.sf_evaluate.specs.Asking.{is_given}
use Rattle.sf_evaluate.specs.Wanted.{is_switched_on}

-- the questions of the control, if a policy file is named for it; else there are none
abbrev pub IsControl : (List ℕ → Option (List ℕ)) → Option (List ℕ) → List QuestionData → Type 0
IsControl holds None control = control ≡ []
IsControl holds (Some path) control = IsPolicyFile (holds path) control

-- the names of the questions that may be allowed, if a file is named for them; else there are none
abbrev pub AreAcceptedIn : (List ℕ → Option (List ℕ)) → Option (List ℕ) → List QuestionData → List (List ℕ) → Type 0
AreAcceptedIn holds None questions names = names ≡ []
AreAcceptedIn holds (Some path) questions names =
    (bytes : List ℕ) × AreKnownBytes (holds path) bytes × AreAccepted questions bytes names

-- Why a control is refused: its file, whose bytes aren't known, can't be read; memory ran out; or it is no policy.
abbrev pub RefusesControl : (List ℕ → Option (List ℕ)) → Option (List ℕ) → Fault → Type 0
RefusesControl holds control fault =
    (fault ≡ Memory)
    ⊎ ((path : List ℕ) × (control ≡ Some path)
    × (((fault ≡ Read) × (holds path ≡ None)) ⊎ RefusesPolicyFile (holds path) fault))

-- Why the bytes name no questions that may be allowed: they are no UTF-8, or a line doesn't name one of the questions.
abbrev pub RefusesNamed : List QuestionData → List ℕ → Fault → Type 0
RefusesNamed questions bytes fault =
    ((fault ≡ Syntax) × (IsUtf8 bytes → ⊥))
    ⊎ ((place : ℕ) × (fault ≡ Accepted (place + 1)) × IsMisfitAt questions bytes place)

-- Why the questions that may be allowed are refused: their file, whose bytes aren't known, can't be read; memory ran
-- out; or the bytes don't name them.
abbrev pub RefusesAccepted : (List ℕ → Option (List ℕ)) → Option (List ℕ) → List QuestionData → Fault → Type 0
RefusesAccepted holds accept questions fault =
    (fault ≡ Memory)
    ⊎ ((path : List ℕ) × (accept ≡ Some path)
    × (((fault ≡ Read) × (holds path ≡ None))
    ⊎ ((bytes : List ℕ) × AreKnownBytes (holds path) bytes × RefusesNamed questions bytes fault)))

-- the policy of the control isn't one of those that ask the questions
abbrev pub is_other_policy : Option (List ℕ) → List (List ℕ) → Bool
is_other_policy None policies = true
is_other_policy (Some path) policies = not (list_any (bytes_eq path) policies)

-- the control is another policy than those that ask the questions
abbrev pub control_fits : List Row → Bool
control_fits rows = is_other_policy (first_of (codes "control") rows) (paths_of (codes "policy") rows)

-- a summary is asked for
abbrev pub wants_summary : List Row → Bool
wants_summary rows = is_switched_on (codes "summary") rows || is_switched_on (codes "summary-all") rows

-- a summary goes without JSON, regions and remarks, and groups go only with a summary
abbrev pub summary_fits : List Row → Bool
summary_fits rows =
    if wants_summary rows
    then not (is_switched_on (codes "json") rows)
    && (not (is_switched_on (codes "regions") rows) && not (is_switched_on (codes "why") rows))
    else not (is_given (codes "groups") rows)

-- the words of `audit` fit together
abbrev pub audit_words_fit : List Row → Bool
audit_words_fit rows = control_fits rows && summary_fits rows
