-- What `audit` reads and writes.
use Rattle.std.specs.Prelude.{◌≡◌, ◌⊎◌, ◌<◌, ◌||◌, ◌++◌, ℕ, Bool, true, false, List, [], ◌∷◌, Option, Some, None, codes, is_some, length, map, option_map, string_bytes, if◌then◌else◌}
use Rattle.sf_command.specs.Common.{Bor, Appends, Data, Insn, QuestionData, Reply, Never, Allowed, Unsettled, AreRightReplies, NamesData, Fault, Count, Memory, Write, Found, IsAuditOf, IsWrongCount, TellingData, audit_document, ExpectedData, expected_text, report_text, summary_text, AreAcceptedIn, IsControl, RefusesAccepted, RefusesControl, HoldStack, RefusesFiles, AreGroupsIn, RefusesGroups, HasBothFiles, identified, HasOrigins, AreAsked, RefusesAsking, IsWhy, Filter, Policy, document_line, GroupData, Asked, AskedContents, TextForm, Report, Summary, SummaryOfAll}
use Rattle.sf_command.specs.Status.{audit_status}

-- the files that an audit is asked by: policies, and where they are given that of a control, that of the questions that
-- may be allowed, that of the groups of a summary, which may be given on the command line, and those of names of calls
pub record AskedData : Type 0 where
  pub policies : List (Bor (List ℕ))
  pub control : Option (List ℕ)
  pub accept : Option (List ℕ)
  pub groups : Option (List ℕ)
  pub has_groups : Bool
  pub names : List (Bor (List ℕ))

-- these files, by the values of the code
abbrev pub asked_data : Asked → AskedData
asked_data a = record {
  policies = a.policies.now;
  control = option_map (λ t. t.now) a.control;
  accept = option_map (λ t. t.now) a.accept;
  groups = option_map (λ t. t.now) a.groups;
  has_groups = a.has_groups;
  names = a.names.now;
}

-- what these files hold: questions, the questions of the control, and the names of questions that may be allowed
pub record ReadData : Type 0 where
  pub questions : List QuestionData
  pub control : List QuestionData
  pub accepted : List (List ℕ)

-- what was read of the files, by what the code keeps of them
abbrev pub read_data : AskedContents → ReadData
read_data read = record {
  questions = read.questions.items;
  control = read.control.items;
  accepted = map string_bytes read.accepted.items;
}

-- the files hold this
pub record IsAskedBy (holds : List ℕ → Option (List ℕ)) (asked : AskedData) (read : ReadData) : Type 0 where
  pub questions : AreAsked holds asked.policies read.questions
  pub control : IsControl holds asked.control read.control
  pub accepted : AreAcceptedIn holds asked.accept read.questions read.accepted

-- it is told what isn't as expected: where a control is given, or questions that may be allowed
abbrev pub is_expecting : AskedData → Bool
is_expecting asked = is_some asked.control || is_some asked.accept

-- what is told behind a report: what isn't as expected, where that is told
abbrev pub behind_text : TellingData → ExpectedData → Found → List ℕ
behind_text telling expected found = if telling.is_expecting then expected_text expected found else []

-- the report of an audit, and behind it what isn't as expected
abbrev pub report_output : TellingData → ExpectedData → Found → List ℕ
report_output telling expected found =
    report_text found telling.regions telling.remarks ++ behind_text telling expected found

-- a file that is read, by what it is read as, on a line
abbrev pub source_line : (role path : List ℕ) → List ℕ
source_line role path = role ++ (codes ": " ++ (path ++ 10 ∷ []))

-- files, each on a line
abbrev pub source_lines : (role : List ℕ) → List (Bor (List ℕ)) → List ℕ
source_lines role [] = []
source_lines role (path ∷ paths) = source_line role path.now ++ source_lines role paths

-- the line of a control, where there is one
abbrev pub control_source : Option (List ℕ) → List ℕ
control_source None = []
control_source (Some path) = source_line (codes "control") path

-- the policies, the control and the files of names that an audit is asked by, each on a line
abbrev pub sources_text : AskedData → List ℕ
sources_text asked =
    source_lines (codes "policy") asked.policies
    ++ (control_source asked.control ++ source_lines (codes "names") asked.names)

-- a summary has a line for each allowed question
abbrev pub is_of_all : TextForm → Bool
is_of_all SummaryOfAll = true
is_of_all _ = false

-- it is told where questions stand
abbrev pub are_placed : (json : Bool) → TextForm → Bool
are_placed json text = json || is_of_all text

-- what is told of an audit: the files that it is asked by, the groups of its questions, how it is told, what was
-- expected, and what was found
pub record ToldData : Type 0 where
  pub asked : AskedData
  pub groups : List GroupData
  pub telling : TellingData
  pub expected : ExpectedData
  pub found : Found

-- a summary, with the files that it is asked by at its head
abbrev pub summary_output : (all : Bool) → ToldData → List ℕ
summary_output all t = summary_text (record {
  head = sources_text t.asked;
  all = all;
  names = t.telling.names;
  groups = t.groups;
  origins = t.telling.origins;
}) t.expected t.found

-- what is written of an audit as a text: the report, or a summary by groups
abbrev pub text_output : TextForm → ToldData → List ℕ
text_output Report t = report_output t.telling t.expected t.found
text_output Summary t = summary_output false t
text_output SummaryOfAll t = summary_output true t

-- what is written of an audit: a text; or one JSON document, with the line of this version and these documents of files
abbrev pub audit_output : (json : Bool) → TextForm → (version : List ℕ) → (files : List Data) → ToldData → List ℕ
audit_output false text version files t = text_output text t
audit_output true text version files t =
    document_line (identified version files (audit_document t.telling t.expected t.found))

-- the remark on a reply: where it has an example, why the stack answers to this as it does
abbrev pub IsRemark : List NamesData → List (List Insn) → Reply → List ℕ → Type 0
IsRemark names programs (Allowed input) remark = IsWhy names programs input remark
IsRemark names programs Never remark = remark ≡ []
IsRemark names programs Unsettled remark = remark ≡ []

-- the remarks on replies, in their order
abbrev pub AreRemarks : List NamesData → List (List Insn) → List Reply → List (List ℕ) → Type 0
AreRemarks names programs [] [] = Unit {0}
AreRemarks names programs (reply ∷ replies) (remark ∷ remarks) =
    IsRemark names programs reply remark × AreRemarks names programs replies remarks
AreRemarks names programs _ _ = ⊥

-- the remarks on the replies of an audit, with these names of calls, where they are asked for; else there are none
abbrev pub HasRemarks : (why : Bool) → List NamesData → Found → List (List ℕ) → Type 0
HasRemarks true names found remarks = AreRemarks names found.settled.stack found.replies remarks
HasRemarks false names found remarks = remarks ≡ []

-- what was found of this stack, and what was expected: right replies to the questions and to the control
pub record IsFoundFor (stack : List (List Insn)) (read : ReadData) (budget : ℕ) (found : Found)
    (expected : ExpectedData) : Type 0 where
  pub audit : IsAuditOf stack read.questions budget found
  pub held : List Reply
  pub right : AreRightReplies found.settled read.control held
  pub expects : expected ≡ record { control = read.control; held = held; accepted = read.accepted }

-- `audit`: the files at the paths are read, and their stack is audited by the questions that the files of the policies
-- ask; what is found is written, with remarks where they are asked for, in JSON with where each question stands and
-- with the files that were read, in a summary by groups with the comments above questions and the files that ask, and
-- with what isn't as expected; the status tells of both
pub record AuditsFiles (version : List ℕ) (holds : List ℕ → Option (List ℕ)) (asked : AskedData)
    (paths : List (Bor (List ℕ))) (names : List NamesData) (budget : ℕ) (regions why : Bool) (text : TextForm)
    (json : Bool) (status : ℕ) (old new : Option (List ℕ)) : Type 0 where
  pub read : ReadData
  pub asked_by : IsAskedBy holds asked read
  pub origins : List Data
  pub placed : HasOrigins (are_placed json text) holds asked.policies read.questions origins
  pub groups : List GroupData
  pub grouped : AreGroupsIn holds asked.groups asked.has_groups groups
  pub stack : List (List Insn)
  pub held : HoldStack holds paths stack
  pub files : List Data
  pub told : HasBothFiles json holds Policy Filter asked.policies paths files
  pub found : Found
  pub expected : ExpectedData
  pub is_found : IsFoundFor stack read budget found expected
  pub remarks : List (List ℕ)
  pub remarked : HasRemarks why names found remarks
  pub written : Appends old new (audit_output json text version files (record {
    asked = asked;
    groups = groups;
    telling = record {
      regions = regions;
      is_expecting = is_expecting asked;
      names = names;
      origins = origins;
      remarks = remarks;
    };
    expected = expected;
    found = found;
  }))
  pub status_is : status ≡ audit_status expected found

-- Why the files that an audit is asked by are refused: a policy is; or the control; or the questions that may be
-- allowed; or the groups.
abbrev pub RefusesAsked : (List ℕ → Option (List ℕ)) → AskedData → Fault → Type 0
RefusesAsked holds asked fault =
    RefusesAsking holds asked.policies fault ⊎ RefusesControl holds asked.control fault
    ⊎ ((questions : List QuestionData) × AreAsked holds asked.policies questions
    × RefusesAccepted holds asked.accept questions fault)
    ⊎ RefusesGroups holds asked.groups fault

-- why the audit of a stack is refused: there are no questions or too many, or the control has too many
abbrev pub IsRefusedFor : ReadData → Fault → Type 0
IsRefusedFor read fault = (fault ≡ Count) × (IsWrongCount read.questions ⊎ (256 < length read.control))

-- Why an audit is refused: writing or memory failed; the files that it is asked by are refused; or these were read, and
-- the filter files are refused, or they make a stack, and its audit by what was read is refused.
abbrev pub RefusesAudit : (List ℕ → Option (List ℕ)) → AskedData → List (Bor (List ℕ)) → Fault → Type 0
RefusesAudit holds asked paths fault =
    (fault ≡ Write) ⊎ (fault ≡ Memory) ⊎ RefusesAsked holds asked fault
    ⊎ ((read : ReadData) × IsAskedBy holds asked read × (RefusesFiles holds paths fault
    ⊎ ((stack : List (List Insn)) × HoldStack holds paths stack × IsRefusedFor read fault)))
