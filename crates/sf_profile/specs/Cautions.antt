-- What a profile says, and its writer may not mean.
use Rattle.std.specs.Prelude.{◌≡◌, ℕ, Bool, true, false, not, ◌&&◌, ◌==◌, bit_and, All, List, [], ◌∷◌, length, map, filter}
use Rattle.sf_profile.specs.Common.{list_any, range_with_len, zip, Input, IsInput, Insn, SpellsProgram, Answers, Comparing, MaskedEqual, Comparison, Settings}
use Rattle.sf_run.specs.declared.action.Action.TheVariants as actions
use Rattle.sf_profile.specs.Data.{ProfileData, ProfileRuleData}
use Rattle.sf_profile.specs.Meaning.{number_in}
use Rattle.sf_profile.specs.Filters.{IsFilterFor}

-- ---- comparisons under a mask

abbrev pub is_masked : Comparing → Bool
is_masked MaskedEqual = true
is_masked _ = false

-- under a mask, the number that is asked for has a bit outside the mask, which counts for nothing
abbrev pub is_loose : Comparison → Bool
is_loose c = is_masked c.comparing && not (bit_and c.value_two c.value == c.value_two)

-- a rule applies, and has such a comparison
abbrev pub has_loose_mask : ProfileRuleData → Bool
has_loose_mask rule = rule.applies && list_any is_loose rule.comparisons

-- the numbers of the rules that do, from 1
abbrev pub loose_rules : List ProfileRuleData → List ℕ
loose_rules rules = map (λ p. p.0) (filter (λ p. has_loose_mask p.1) (zip (range_with_len 1 (length rules)) rules))

-- the same of a profile
abbrev pub AreLooseFor : List ℕ → ProfileData → Type 0
AreLooseFor numbers profile = numbers ≡ loose_rules profile.rules

-- ---- ERRNO 0

-- Programs answer ERRNO 0 at an input of this number: the call isn't made, and reports success.
pub record AnswerZero (programs : List (List Insn)) (number : ℕ) : Type 0 where
  pub input : Input
  pub is_input : IsInput input
  pub is_number : number_in input ≡ number
  pub answers : Answers programs input (record { action = actions.Errno; info = 0 })

-- the one program that bytes spell
pub record AreProgramOf (bytes : List ℕ) (programs : List (List Insn)) : Type 0 where
  pub program : List Insn
  pub spelled : SpellsProgram bytes program
  pub only : programs ≡ program ∷ []

-- numbers of inputs that the filter of a profile answers ERRNO 0
pub record HaveZeroErrors (s : Settings) (numbers : List ℕ) (profile : ProfileData) : Type 0 where
  pub bytes : List ℕ
  pub made : IsFilterFor s bytes profile
  pub programs : List (List Insn)
  pub are_program : AreProgramOf bytes programs
  pub zero : All (AnswerZero programs) numbers
