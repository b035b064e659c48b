-- What an audit finds, and why it is refused.
use Rattle.std.specs.Prelude.{◌≡◌, ℕ, ◌<◌, ◌≤◌, ◌⊎◌, List, [], length}
use Rattle.sf_audit.specs.Common.{Insn, QuestionData, IsPlain, IsExplorationOf, IsExactExploration, AreRightReplies, Fault, SpellStack, IsFirstRefusal}
use Rattle.sf_stack.specs.declared.fault.Fault.TheVariants as faults
use Rattle.sf_audit.specs.Outcomes.{Found}

-- An exploration of the stack came to its end, with nothing outstanding or all of the budget spent; the questions are
-- those that were asked, and each has a right reply. On a plain stack the end is the exact one, whoever worked.
pub record IsFoundOn (stack : List (List Insn)) (budget : ℕ) (asked : List QuestionData) (o : Found) : Type 0 where
  pub end : IsExplorationOf stack budget o.settled
  pub plain : IsPlain stack → IsExactExploration stack budget o.settled
  pub questions : o.questions ≡ asked
  pub replies : AreRightReplies o.settled o.questions o.replies

-- what was found was found on this stack, and there are 1 to 256 questions
pub record IsAuditOf (stack : List (List Insn)) (questions : List QuestionData) (budget : ℕ) (o : Found)
    : Type 0 where
  pub counted : (0 < length questions) × (length questions ≤ 256)
  pub found : IsFoundOn stack budget questions o

-- what was found was found on the stack that the files spell, and there are 1 to 256 questions
pub record IsAudit (files : List (List ℕ)) (questions : List QuestionData) (budget : ℕ) (o : Found) : Type 0 where
  pub stack : SpellStack files o.settled.stack
  pub counted : (0 < length questions) × (length questions ≤ 256)
  pub found : IsFoundOn o.settled.stack budget questions o

-- this holds of what two audits found, with the same questions, whose files spell one stack, and which left nothing
-- outstanding
abbrev pub OfTwoAudits : (Found → Found → Type 0) → Type 0
OfTwoAudits P =
    (files others : List (List ℕ)) (questions : List QuestionData) (b c : ℕ) (o p : Found)
    → IsAudit files questions b o → IsAudit others questions c p → o.settled.stack ≡ p.settled.stack
    → o.settled.outstanding ≡ [] → p.settled.outstanding ≡ [] → P o p

-- there is no question, or there are too many
abbrev pub IsWrongCount : List QuestionData → Type 0
IsWrongCount questions = (length questions ≡ 0) ⊎ (256 < length questions)

-- the files spell a stack, but there is no question or there are too many
pub record IsMiscounted (files : List (List ℕ)) (questions : List QuestionData) : Type 0 where
  pub stack : List (List Insn)
  pub spelled : SpellStack files stack
  pub count : IsWrongCount questions

-- the first refusal: that of the files; if they spell a stack, that there is no question or that there are too many
abbrev pub IsAuditRefusal : List (List ℕ) → List QuestionData → Fault → Type 0
IsAuditRefusal files questions faults.Count = IsMiscounted files questions
IsAuditRefusal files questions fault = IsFirstRefusal files fault
