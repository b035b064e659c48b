-- Whether some call may get through a stack: whether some input gets further than by KILL_THREAD.
use Rattle.sf_compare.proofs.Common.{◌≡◌, ◌↔◌, ℕ, ◌<◌, List, [], ◌∷◌, length, Option, Some, None, refl, ap, arith, IsTrue, is_some, Input, Insn, ReturnConstant, Allow, KillThread, Answer, Answers, answer_more, answer_none, outcome_of, run_for, Tree, Leaf, Bits, value, tree_at, input_by, IsBehaviour, Example, Looser, IsFinding, LetsSomeThrough}

-- a stack that kills each thread that makes a call
abbrev pub refusing : List (List Insn)
refusing = (ReturnConstant 0 ∷ []) ∷ []

abbrev killing : Answer
killing = record { action = KillThread; info = 0 }

refuses : (d : Input) → Answers refusing d killing
unfolding outcome_of run_for
refuses d = answer_more [] (record { action = Allow; info = 0 }) 0 answer_none

-- the leaf of its answer
pub refusing-behaviour : (ts : List Tree) (id : ℕ) → id < length ts → tree_at ts id ≡ Leaf 0
    → IsBehaviour refusing ts id
refusing-behaviour ts id within is =
    let zero : (bits : Bits) → value (tree_at ts id) bits ≡ 0 = λ bits. ap (λ (t : Tree). value t bits) is in
    record {
      within = within;
      small = λ bits. omega (arith, zero bits);
      answers = λ bits. rw (zero bits) (refuses (input_by bits));
    }

-- what gets further than under that stack may get through
pub some_through : (programs : List (List Insn)) (found : Option Example) → IsFinding refusing programs Looser found
    → (IsTrue (is_some found) ↔ LetsSomeThrough programs)
some_through programs None never = (
  λ e. absurd cc,
  λ h. absurd (never h.input killing h.answer (record {
    input = h.is_input;
    answered_before = refuses h.input;
    answered_after = h.answered;
    related = h.reaches;
  })),
)
some_through programs (Some e) found = (
  λ _. record {
    input = e.input;
    answer = e.after;
    is_input = found.change.input;
    answered = found.change.answered_after;
    reaches = omega (arith, found.change.related);
  },
  λ _. refl,
)
