-- What it is to be the filter of a profile, and why there is none.
use Rattle.std.specs.Prelude.{◌≡◌, ◌≢◌, ◌⊎◌, ◌<◌, ◌≤◌, All, ℕ, length, List, [], ◌∷◌, Option, Some, None, Result, Err, IsOkAnd, IsSomeAnd}
use Rattle.sf_profile.specs.Common.{IsUtf8, document, HasUniqueKeys, Data, read, Input, IsInput, Insn, SpellsProgram, IsPlain, Answers, Fault, MaskedEqual, Comparison, Settings}
use Rattle.sf_profile.specs.declared.fault.Fault.TheVariants as faults
use Rattle.sf_profile.specs.Data.{ProfileData, SetRulesData, PlanData, RuleData}
use Rattle.sf_profile.specs.Meaning.{meaning}
use Rattle.sf_profile.specs.Form.{form, form_bytes}
use Rattle.sf_profile.specs.Repeats.{last_rules, IsFaultOfRepeat}
use Rattle.sf_profile.specs.Configs.{profile_in}
use Rattle.sf_profile.specs.Reads.{read_profile}
use Rattle.sf_profile.specs.Plans.{plan_of}

-- a comparison of all bits of an argument
abbrev pub IsUnmasked : Comparison → Type 0
IsUnmasked c = c.comparing ≢ MaskedEqual

-- no rule compares under a mask
abbrev pub HasNoMask : PlanData → Type 0
HasNoMask plan =
    All (λ (part : SetRulesData). All (λ (rule : RuleData). All IsUnmasked rule.comparisons) part.rules) plan.parts

-- The bytes spell a lawful program, which answers each input as the profile means. Where no rule compares under a mask,
-- it is plain, so that what is explored of it is exact.
pub record IsFilterOf (bytes : List ℕ) (plan : PlanData) : Type 0 where
  pub program : List Insn
  pub spelled : SpellsProgram bytes program
  pub answers : (d : Input) → IsInput d → Answers (program ∷ []) d (meaning plan d)
  pub plain : HasNoMask plan → IsPlain (program ∷ [])

-- the bytes are the filter of a profile, of which there is one
pub record IsFilterFor (s : Settings) (bytes : List ℕ) (profile : ProfileData) : Type 0 where
  pub short : length (form (plan_of s profile)) ≤ 4096
  pub is_form : bytes ≡ form_bytes (plan_of s profile)
  pub filter : IsFilterOf bytes (plan_of s profile)

-- a profile makes a filter that is too long
abbrev pub IsTooLong : Settings → ProfileData → Type 0
IsTooLong s profile = 4096 < length (form (plan_of s profile))

-- ---- files

-- the profile in a file's tree, or why it is refused
abbrev pub read_where : Settings → Option Data → Result ProfileData Fault
read_where s None = Err faults.Key
read_where s (Some d) = read_profile s d

abbrev pub read_file : Settings → Data → Result ProfileData Fault
read_file s file = read_where s (profile_in file)

-- The bytes are JSON, no object of which has a key twice, and this is the tree. Readers of JSON differ in which of two
-- equal keys they take.
pub record IsTree (text : List ℕ) (file : Data) : Type 0 where
  pub utf8 : IsUtf8 text
  pub tree : read text ≡ Some file
  pub unique : IsSomeAnd (document text) HasUniqueKeys

-- something is true of the profile in a file
pub record IsInText (s : Settings) (is_true : ProfileData → Type 0) (text : List ℕ) : Type 0 where
  pub file : Data
  pub is_tree : IsTree text file
  pub holds : IsOkAnd (read_file s file) is_true

-- the filter of the profile in a file
abbrev pub MakesFilterOf : Settings → List ℕ → List ℕ → Type 0
MakesFilterOf s text bytes = IsInText s (IsFilterFor s bytes) text

-- the bytes are JSON, but an object has a key twice, and the fault is that of the rule, or of the head
pub record RepeatsKey (text : List ℕ) (fault : Fault) : Type 0 where
  pub utf8 : IsUtf8 text
  pub file : Data
  pub is_read : read text ≡ Some file
  pub repeats : IsSomeAnd (document text) (λ whole. ¬ HasUniqueKeys whole)
  pub at : IsSomeAnd (document text) (λ whole. IsFaultOfRepeat 1 (last_rules whole) fault)

-- why there is no tree of a file's bytes: they are no JSON; or memory was refused; or a key comes twice
abbrev pub HasNoTree : List ℕ → Fault → Type 0
HasNoTree text fault =
    ((fault ≡ faults.Syntax) × (IsUtf8 text → read text ≡ None))
    ⊎ ((fault ≡ faults.Memory) ⊎ RepeatsKey text fault)

-- why there is no filter of a file's tree: memory was refused; or the first refusal; or the filter would be too long
abbrev pub IsRefused : Settings → Data → Fault → Type 0
IsRefused s file fault =
    (fault ≡ faults.Memory)
    ⊎ ((read_file s file ≡ Err fault) ⊎ ((fault ≡ faults.TooLong) × IsOkAnd (read_file s file) (IsTooLong s)))

-- why there is no filter of a file's bytes: they have no tree, or the tree is refused
abbrev pub IsRefusedText : Settings → List ℕ → Fault → Type 0
IsRefusedText s text fault = HasNoTree text fault ⊎ ((file : Data) × IsTree text file × IsRefused s file fault)
