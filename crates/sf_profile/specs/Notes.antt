-- What is told of a profile.
use Rattle.std.specs.Prelude.{◌≡◌, ◌≤◌, ℕ, List, [], ◌∷◌, ◌++◌, codes, length, count_by, filter, fold, if◌then◌else◌}
use Rattle.sf_profile.specs.Common.{list_any, flat_map, bytes_eq, decimal, CallSet, X64, X32, I386, Aarch64, Arm, Response, KillProcess, KillThread, Trap, Errno, Notify, Tracer, Log, Allow, Settings}
use Rattle.sf_profile.specs.Settings.{is_unknown}
use Rattle.sf_profile.specs.Known.{is_nowhere}
use Rattle.sf_profile.specs.Data.{ProfileData, ProfileRuleData}
use Rattle.sf_profile.specs.Plans.{plan_of}
use Rattle.sf_profile.specs.Form.{form}
use Rattle.sf_profile.specs.Filters.{IsInText}

-- the parts of a line one blank apart, and a line feed
abbrev pub note_line : List (List ℕ) → List ℕ
note_line [] = 10 ∷ []
note_line (part ∷ []) = part ++ 10 ∷ []
note_line (part ∷ next ∷ parts) = part ++ 32 ∷ note_line (next ∷ parts)

-- the names of a rule, if it applies
abbrev pub names_where : ProfileRuleData → List (List ℕ)
names_where rule = if rule.applies then rule.names else []

-- a name more, if it isn't there yet
unfoldable pub with_name : List (List ℕ) → List ℕ → List (List ℕ)
with_name names name = if list_any (bytes_eq name) names then names else names ++ name ∷ []

-- the names of the rules that apply, each once, in the order of first mention
abbrev pub applied_names : List ProfileRuleData → List (List ℕ)
applied_names rules = fold with_name [] (flat_map names_where rules)

-- the names that no file has
abbrev pub unknown_names : Settings → List ProfileRuleData → List (List ℕ)
unknown_names s rules = filter (is_unknown s) (applied_names rules)

-- those of them that no other machine has either, and that i386 hasn't behind another call: each makes the profile
-- refused, unless such names are passed over
abbrev pub nowhere_names : Settings → List ProfileRuleData → List (List ℕ)
nowhere_names s rules = filter (is_nowhere s) (applied_names rules)

-- how many rules apply
abbrev pub applied_count : List ProfileRuleData → ℕ
applied_count rules = count_by (λ (rule : ProfileRuleData). rule.applies) rules

-- the name of a set of calls
abbrev pub set_name_in_notes : CallSet → List ℕ
set_name_in_notes X64 = codes "x86_64"
set_name_in_notes X32 = codes "x32"
set_name_in_notes I386 = codes "i386"
set_name_in_notes Aarch64 = codes "aarch64"
set_name_in_notes Arm = codes "arm"

-- the name of a response's action, and its data
abbrev pub response_name : Response → List ℕ
response_name KillProcess = codes "KILL_PROCESS"
response_name KillThread = codes "KILL_THREAD"
response_name Trap = codes "TRAP"
response_name (Errno n) = codes "ERRNO"
response_name Notify = codes "USER_NOTIF"
response_name (Tracer n) = codes "TRACE"
response_name Log = codes "LOG"
response_name Allow = codes "ALLOW"

abbrev pub response_data : Response → ℕ
response_data (Errno n) = n
response_data (Tracer n) = n
response_data _ = 0

-- ---- lines

abbrev pub default_line : Response → List ℕ
default_line response =
    note_line (codes "default" ∷ response_name response ∷ decimal (response_data response) ∷ [])

-- a name, with a blank before it
abbrev pub name_word : List ℕ → List ℕ
name_word name = 32 ∷ name

-- the sets, one blank before each
abbrev pub set_words : CallSet → List ℕ
set_words set = name_word (set_name_in_notes set)

abbrev pub sets_line : List CallSet → List ℕ
sets_line sets = codes "sets" ++ flat_map set_words sets ++ 10 ∷ []

-- how many rules there are and apply, and how many names they have and no file has
abbrev pub rules_line : ℕ → ℕ → ℕ → ℕ → List ℕ
rules_line rules applied names unknown =
    note_line (codes "rules" ∷ decimal rules ∷ codes "applied" ∷ decimal applied ∷ codes "names" ∷ decimal names
    ∷ codes "unknown" ∷ decimal unknown ∷ [])

abbrev pub unknown_line : List ℕ → List ℕ
unknown_line name = note_line (codes "unknown" ∷ name ∷ [])

abbrev pub instructions_line : ℕ → List ℕ
instructions_line size = note_line (codes "total" ∷ codes "instructions" ∷ decimal size ∷ [])

-- what is told of a profile whose filter has so many instructions
abbrev pub notes_text : Settings → ProfileData → ℕ → List ℕ
notes_text s profile size =
    note_line (codes "seccomp_audit" ∷ codes "profile" ∷ codes "1" ∷ [])
    ++ default_line profile.default
    ++ sets_line profile.sets
    ++ rules_line (length profile.rules) (applied_count profile.rules) (length (applied_names profile.rules))
    (length (unknown_names s profile.rules))
    ++ flat_map unknown_line (unknown_names s profile.rules)
    ++ instructions_line size

-- the notes of a profile, whose filter isn't too long
pub record AreNotesFor (s : Settings) (notes : List ℕ) (profile : ProfileData) : Type 0 where
  pub short : length (form (plan_of s profile)) ≤ 4096
  pub text : notes ≡ notes_text s profile (length (form (plan_of s profile)))

-- the notes of the profile in a file
abbrev pub AreNotesOfText : Settings → List ℕ → List ℕ → Type 0
AreNotesOfText s text notes = IsInText s (AreNotesFor s notes) text

-- ---- names that are passed over

-- the names of a profile that no machine has, with a blank before each
abbrev pub AreUnknownFor : Settings → List ℕ → ProfileData → Type 0
AreUnknownFor s words profile = words ≡ flat_map name_word (nowhere_names s profile.rules)

-- the same of the profile in a file
abbrev pub AreUnknownOf : Settings → List ℕ → List ℕ → Type 0
AreUnknownOf s text words = IsInText s (AreUnknownFor s words) text
