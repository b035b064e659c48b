-- Command lines whose words are known, and what they say of the files that they name.
use Rattle.std.specs.Prelude.{◌≡◌, ◌⊎◌, ℕ, List, [], ◌∷◌, ◌++◌, Some, codes, slice_get}
use Rattle.clap.specs.Words.{Text}
use Rattle.sf_insn.specs.declared.input.Input.{Input}
use Rattle.sf_insn.specs.Inputs.{IsInput}
use Rattle.sf_check.specs.declared.insn.Insn.{Insn}
use Rattle.sf_question.specs.QuestionData.{QuestionData}
use Rattle.sf_question.specs.Breaking.{Breaks}
use Rattle.sf_stack.specs.Filters.{SpellStack}
use Rattle.sf_evaluate.specs.Policies.{IsPolicy}

-- `check p.bpf`
abbrev pub check_words : List Text
check_words = codes "check" ∷ codes "p.bpf" ∷ []

-- `audit --policy q.toml p.bpf`
abbrev pub audit_words : List Text
audit_words = codes "audit" ∷ codes "--policy" ∷ codes "q.toml" ∷ codes "p.bpf" ∷ []

-- `ret ALLOW` as a file: the code 0x0006, two fields that a return doesn't use, and 0x7fff0000, lowest byte first
abbrev pub allow_bytes : Text
allow_bytes = 6 ∷ 0 ∷ 0 ∷ 0 ∷ 0 ∷ 0 ∷ 255 ∷ 127 ∷ []

-- what `check` writes of one instruction
abbrev pub one_text : Text
one_text = codes "filter 1 1 instructions" ++ 10 ∷ (codes "path 1" ++ 10 ∷ [])

-- A run ended with status 0 and added this text to what was written before; or it ended with status 5, for want of
-- memory.
abbrev pub IsDone : (status : ℕ) → (old new : Text) → (text : Text) → Type 0
IsDone status old new text = ((status ≡ 0) × (new ≡ old ++ text)) ⊎ (status ≡ 5)

-- The bytes of a policy ask questions, and those of a filter file spell a stack, under which no input breaks any of
-- them.
pub record KeepsPolicy (policy bytes : Text) : Type 0 where
  pub questions : List QuestionData
  pub asked : IsPolicy policy questions
  pub stack : List (List Insn)
  pub spelled : SpellStack (bytes ∷ []) stack
  pub kept : (place : ℕ) (q : QuestionData) (d : Input) → slice_get questions place ≡ Some q → IsInput d
      → ¬ Breaks stack q d
