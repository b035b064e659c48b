-- What each subcommand does, by the values of its arguments, and why it is refused.
use Rattle.std.specs.Prelude.{◌≡◌, ◌⊎◌, ℕ, true, false, if◌then◌else◌, List, Option, Some, None, codes, option_map, unwrap_or}
use Rattle.sf_command.specs.Common.{bytes_eq, Bor, Row, Text, first_of, one_of, Input, NamesData, Fault, UnknownName, Relation, Looser, Tighter, Different, ArePaths, IsOptionNumber, ListingForm, TextForm, Report, Summary, SummaryOfAll, AnswersFiles, ChecksFiles, RefusesCheck, AreNamed, AsksInput, LacksName, RefusesNamed, is_given, numbers_fit, WritesProfile, are_known, calls_asked, is_switched_on, wants_summary, installed_groups}
use Rattle.sf_stack.specs.declared.fault.Fault.TheVariants.{Input as InputFault}
use Rattle.sf_command.specs.Audits.{AskedData, AuditsFiles, RefusesAudit}
use Rattle.sf_command.specs.Comparisons.{ComparesFiles, RefusesComparison, WantedData}
use Rattle.sf_command.specs.Diagrams.{RefusesList, RefusesStack}
use Rattle.sf_command.specs.Listings.{ListsFiles}
use Rattle.sf_command.specs.Needs.{TellsNeeds}
use Rattle.sf_command.specs.declared.listing.ListingForm.TheVariants as forms

-- the relation that a status is about: `Different` where the switch is given, and else `Looser`
abbrev pub relation_of_status : List Row → Relation
relation_of_status rows = if is_switched_on (codes "same") rows then Different else Looser

-- a relation of answers, by its word
abbrev pub relation_named : Text → Relation
relation_named word =
    if bytes_eq word (codes "looser") then Looser
    else if bytes_eq word (codes "tighter") then Tighter
    else Different

-- which rows of what changes are asked for
abbrev pub wanted_by : List Row → WantedData
wanted_by rows = record { only = option_map relation_named (first_of (codes "only") rows); calls = calls_asked rows }

-- the form of a listing by its switches: a digest, else a document, else a text
abbrev pub listing_form : List Row → ListingForm
listing_form rows =
    if is_switched_on (codes "digest") rows then forms.Digest
    else if is_switched_on (codes "json") rows then forms.Json
    else forms.Text

-- the form of the text of an audit, by its switches
abbrev pub text_form : List Row → TextForm
text_form rows =
    if is_switched_on (codes "summary-all") rows then SummaryOfAll
    else if is_switched_on (codes "summary") rows then Summary
    else Report

-- the file of the groups of a summary, if one is asked for: the installed one where none is named
abbrev pub groups_path : List Row → Option Text
groups_path rows =
    if wants_summary rows then Some (unwrap_or (first_of (codes "groups") rows) installed_groups) else None

-- these are the files by which an audit is asked
pub record IsAskedFor (rows : List Row) (asked : AskedData) : Type 0 where
  pub policies : ArePaths (codes "policy") rows asked.policies
  pub control : asked.control ≡ first_of (codes "control") rows
  pub accept : asked.accept ≡ first_of (codes "accept") rows
  pub groups : asked.groups ≡ groups_path rows
  pub given : asked.has_groups ≡ is_given (codes "groups") rows
  pub names : ArePaths (codes "names") rows asked.names

module _ (version : Text) (holds : Text → Option Text) (rows : List Row) (status : ℕ) (old new : Option Text) where
  -- the files that are named were audited by the files that ask
  pub record Audits : Type 0 where
    pub paths : List (Bor Text)
    pub named : ArePaths (codes "filters") rows paths
    pub budget : ℕ
    pub counted : IsOptionNumber (one_of (codes "budget") rows) 1000000 100000 budget
    pub names : List NamesData
    pub called : AreNamed holds rows names
    pub asked : AskedData
    pub asked_for : IsAskedFor rows asked
    pub audited : AuditsFiles version holds asked paths names budget (is_switched_on (codes "regions") rows)
        (is_switched_on (codes "why") rows) (text_form rows) (is_switched_on (codes "json") rows) status old new

  -- the files that are named were checked
  pub record Checks : Type 0 where
    pub paths : List (Bor Text)
    pub named : ArePaths (codes "filters") rows paths
    pub checked : ChecksFiles (is_switched_on (codes "instructions") rows) (is_switched_on (codes "json") rows)
        version holds paths old new
    pub status_is : status ≡ 0

  -- the input that is asked for was evaluated by the files that are named
  pub record Evaluates : Type 0 where
    pub paths : List (Bor Text)
    pub named : ArePaths (codes "filters") rows paths
    pub names : List NamesData
    pub called : AreNamed holds rows names
    pub input : Input
    pub asked : AsksInput rows names input
    pub evaluated : AnswersFiles input (record {
      traced = is_switched_on (codes "trace") rows;
      brief = is_switched_on (codes "trace-true") rows;
      json = is_switched_on (codes "json") rows;
    }) version holds paths names old new
    pub status_is : status ≡ 0

  -- the old and the new files that are named were compared
  pub record Compares : Type 0 where
    pub old_paths : List (Bor Text)
    pub named_old : ArePaths (codes "old") rows old_paths
    pub new_paths : List (Bor Text)
    pub named_new : ArePaths (codes "new") rows new_paths
    pub names : List NamesData
    pub called : AreNamed holds rows names
    pub known : are_known names (calls_asked rows) ≡ true
    pub compared : ComparesFiles holds old_paths new_paths version names (relation_of_status rows)
        (is_switched_on (codes "rows") rows) (is_switched_on (codes "json") rows) (wanted_by rows) status old new

  -- the stack of the files that are named was listed
  pub record Lists : Type 0 where
    pub paths : List (Bor Text)
    pub named : ArePaths (codes "filters") rows paths
    pub names : List NamesData
    pub called : AreNamed holds rows names
    pub known : are_known names (calls_asked rows) ≡ true
    pub listed : ListsFiles version holds paths names (calls_asked rows) (listing_form rows) old new
    pub status_is : status ≡ 0

  -- what is needed of the files that are named was told
  pub record Needs : Type 0 where
    pub paths : List (Bor Text)
    pub named : ArePaths (codes "filters") rows paths
    pub needed : TellsNeeds version holds paths (is_switched_on (codes "json") rows) status old new

  -- the filter of the profile that is named was written, or what is told of it
  pub record Profiles : Type 0 where
    pub written : WritesProfile holds rows old new
    pub status_is : status ≡ 0

-- one of the seven subcommands is named, and what belongs to its name holds of the values of its arguments
abbrev pub ByName : (audit check eval compare list needed profile : List Row → Type 0)
    → Option (Text × List Row) → Type 0
ByName audit check eval compare list needed profile named =
    (found : Text × List Row) × (named ≡ Some found)
    × (((found.0 ≡ codes "audit") × audit found.1) ⊎ ((found.0 ≡ codes "check") × check found.1)
    ⊎ ((found.0 ≡ codes "eval") × eval found.1) ⊎ ((found.0 ≡ codes "compare") × compare found.1)
    ⊎ ((found.0 ≡ codes "list") × list found.1) ⊎ ((found.0 ≡ codes "needed") × needed found.1)
    ⊎ ((found.0 ≡ codes "profile") × profile found.1))

-- what was done is what the named subcommand asks for
abbrev pub RunsAs : (version : Text) → (Text → Option Text) → Option (Text × List Row) → ℕ → Option Text → Option Text
    → Type 0
RunsAs version holds named status old new = ByName
    (λ rows. Audits version holds rows status old new)
    (λ rows. Checks version holds rows status old new)
    (λ rows. Evaluates version holds rows status old new)
    (λ rows. Compares version holds rows status old new)
    (λ rows. Lists version holds rows status old new)
    (λ rows. Needs version holds rows status old new)
    (λ rows. Profiles version holds rows status old new)
    named

-- this holds of the paths that an argument names
abbrev pub OnPaths : Text → List Row → (List (Bor Text) → Type 0) → Type 0
OnPaths name rows P = (paths : List (Bor Text)) × ArePaths name rows paths × P paths

-- this holds of how many nodes decision diagrams may have: 1,000,000 where no number is given
abbrev pub OnNodes : List Row → (ℕ → Type 0) → Type 0
OnNodes rows P = (nodes : ℕ) × IsOptionNumber (one_of (codes "nodes") rows) 16000000 1000000 nodes × P nodes

-- a file of names is refused, or a call that is asked for by its name is one of no set, or else this is so
abbrev pub OnCalls : (Text → Option Text) → List Row → Fault → Type 0 → Type 0
OnCalls holds rows fault P =
    RefusesNamed holds rows fault ⊎ ((fault ≡ UnknownName)
    × ((sets : List NamesData) × AreNamed holds rows sets × (are_known sets (calls_asked rows) ≡ false))) ⊎ P

-- Why `eval` is refused behind its files of names: no input is spelled, or a number is too wide; a given name is none
-- of their sets and calls; or an input is asked for, and the filter files are refused as by `check`.
abbrev pub RefusesEval : (Text → Option Text) → List Row → Fault → Type 0
RefusesEval holds rows fault =
    ((fault ≡ InputFault) × (numbers_fit rows ≡ false))
    ⊎ ((fault ≡ UnknownName) × (numbers_fit rows ≡ true)
    × ((names : List NamesData) × AreNamed holds rows names × LacksName rows names))
    ⊎ (((names : List NamesData) × (input : Input) × AreNamed holds rows names × AsksInput rows names input)
    × OnPaths (codes "filters") rows (λ paths. RefusesCheck holds paths fault))

-- why what the named subcommand asks for is refused, where it is one of the six that take filters
abbrev pub RefusesOnStack : (Text → Option Text) → Option (Text × List Row) → Fault → Type 0
RefusesOnStack holds named fault = ByName
    (λ rows. RefusesNamed holds rows fault ⊎ OnPaths (codes "filters") rows
    (λ paths. (asked : AskedData) × IsAskedFor rows asked × RefusesAudit holds asked paths fault))
    (λ rows. OnPaths (codes "filters") rows (λ paths. RefusesCheck holds paths fault))
    (λ rows. RefusesNamed holds rows fault ⊎ RefusesEval holds rows fault)
    (λ rows. OnCalls holds rows fault (OnPaths (codes "old") rows (λ old. OnPaths (codes "new") rows
    (λ new. OnNodes rows (λ nodes. RefusesComparison holds old new nodes fault)))))
    (λ rows. OnCalls holds rows fault (OnPaths (codes "filters") rows
    (λ paths. OnNodes rows (λ nodes. RefusesList holds paths nodes fault))))
    (λ rows. OnPaths (codes "filters") rows (λ paths. OnNodes rows (λ nodes. RefusesStack holds paths nodes fault)))
    (λ rows. ⊥)
    named
