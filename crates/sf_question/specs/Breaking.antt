-- Which inputs are in a question, and which break it.
use Rattle.std.specs.Prelude.{◌≡◌, ℕ, ◌<◌, ◌≤◌, true, List, slice_index, bit_and}
use Rattle.sf_insn.specs.declared.input.Input.{Input}
use Rattle.sf_check.specs.declared.insn.Insn.{Insn}
use Rattle.sf_run.specs.declared.action.Answer.{Answer}
use Rattle.sf_run.specs.Answers.{Answers}
use Rattle.sf_question.specs.Actions.{has_action}
use Rattle.sf_question.specs.QuestionData.{QuestionData, range_at, mask_at}

-- a number that a word may have: it lies in the word's range and has, on the bits of its mask, its value
pub record IsNumberOf (q : QuestionData) (word n : ℕ) : Type 0 where
  pub above : (range_at q word).0 ≤ n
  pub below : n ≤ (range_at q word).1
  pub masked : bit_and n (mask_at q word).0 ≡ (mask_at q word).1

-- an input is in a question where each of its words has a number that it may have there
abbrev pub IsInQuestion : QuestionData → Input → Type 0
IsInQuestion q d = (word : ℕ) → word < 16 → IsNumberOf q word (slice_index d.words word)

-- An input breaks a question where it is in it, and the action of the stack's answer is among those that are
-- asked about.
pub record Breaks (stack : List (List Insn)) (q : QuestionData) (d : Input) : Type 0 where
  pub inside : IsInQuestion q d
  pub answer : Answer
  pub answers : Answers stack d answer
  pub asked : has_action q.actions answer.action ≡ true
