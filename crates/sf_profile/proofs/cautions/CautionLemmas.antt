-- Answers of ERRNO 0.
use Rattle.sf_profile.proofs.Common.{common_steps, arith, ◌≡◌, ◌⊎◌, inl, inr, ℕ, List, [], ◌∷◌, ◌++◌, All-push, Input, IsInput, Insn, Answer, Answers, number_in, AnswerZero}
use Rattle.std.proofs.Common.{All}
use Rattle.sf_run.specs.declared.action.Action.TheVariants as actions

pub zero_found : (programs : List (List Insn)) (d : Input) (a : Answer) → IsInput d → Answers programs d a
    → a.action ≡ actions.Errno → a.info ≡ 0 → AnswerZero programs (number_in d)
zero_found programs d a input answers action info = grind (arith, common_steps)

pub one_more : (programs : List (List Insn)) (numbers more : List ℕ) (number : ℕ) → All (AnswerZero programs) numbers
    → AnswerZero programs number → (more ≡ numbers) ⊎ (more ≡ numbers ++ number ∷ []) → All (AnswerZero programs) more
one_more programs numbers more number all one (inl same) = rw same all
one_more programs numbers more number all one (inr pushed) =
    rw pushed (All-push (AnswerZero programs) numbers number all one)
