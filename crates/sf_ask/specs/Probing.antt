-- Probes: which calls questions are about, and which questions the facts of a region rule out at once.
use Rattle.std.specs.Prelude.{◌≡◌, ◌==◌, ℕ, ◌<◌, ◌⊎◌, Bool, true, false, List, length, Some, slice_get, All, Contains}
use Rattle.sf_ask.specs.Common.{IsNonDecreasingBy, Action, Node, FactsView, Covers, NoInput, has_action, IsInQuestion, QuestionData, range_at, Probe, Probes}
use Rattle.sf_ask.specs.Judging.{CantTakeInQuestion}
use Rattle.sf_ask.specs.QuestionBits.{has_bit}

-- a probe has the place of a question, and this question's range for the first word, the call's number
pub record IsProbeIn (questions : List QuestionData) (p : Probe) : Type 0 where
  pub inside : p.question < length questions
  pub of : (question : QuestionData) → slice_get questions p.question ≡ Some question
      → range_at question 0 ≡ (p.low, p.high)

-- a probe has one number of the call
abbrev pub has_one_call : Probe → Bool
has_one_call p = p.low == p.high

-- one of the probes is of the question at this place
abbrev pub HasProbe : List Probe → ℕ → Type 0
HasProbe probes q = (p : Probe) × Contains probes p × (p.question ≡ q)

-- Each of the first n questions has a probe in one of two lists, and all probes are of questions that there are: in
-- `by_call` those with one number of the call, in `others` the others.
pub record AreProbes (questions : List QuestionData) (n : ℕ) (by_call others : List Probe) : Type 0 where
  pub right_calls : All (IsProbeIn questions) by_call
  pub one_call : All (λ p. has_one_call p ≡ true) by_call
  pub right_others : All (IsProbeIn questions) others
  pub many_calls : All (λ p. has_one_call p ≡ false) others
  pub each : (q : ℕ) → q < n → HasProbe by_call q ⊎ HasProbe others q

-- each of these questions has a probe, and the probes with one number of the call stand in the order of this number
pub record AreProbesOf (questions : List QuestionData) (probes : Probes) : Type 0 where
  pub each : AreProbes questions (length questions) probes.by_call.items probes.others.items
  pub ascending : IsNonDecreasingBy (λ (p : Probe). p.low) probes.by_call.items

-- no input that agrees with facts is in the question, and the facts can't be confined to it
pub record LeaveNone (f : FactsView) (pool : List Node) (question : QuestionData) : Type 0 where
  pub none : NoInput f pool (IsInQuestion question)
  pub rule : CantTakeInQuestion question pool f

-- facts rule a question out, whatever pool they cover
abbrev pub IsRuledOut : FactsView → QuestionData → Type 0
IsRuledOut f question = (pool : List Node) → Covers f pool → LeaveNone f pool question

-- where the question at a place asks about the action, it is ruled out
unfoldable pub IsRuledOutIfAsked : FactsView → List QuestionData → Action → ℕ → Type 0
IsRuledOutIfAsked f questions action q = (question : QuestionData) → slice_get questions q ≡ Some question
    → has_action question.actions action ≡ true → IsRuledOut f question

-- of the questions that ask about the action, those whose bit isn't set are ruled out
abbrev pub AreRuledOutBut : FactsView → List QuestionData → Action → List ℕ → Type 0
AreRuledOutBut f questions action bits =
    (q : ℕ) → q < length questions → has_bit bits q ≡ false → IsRuledOutIfAsked f questions action q
