-- A written filter is plain where no rule compares under a mask.
use Rattle.sf_profile.proofs.Common.{ℕ, List, [], ◌∷◌, map, All, All-nil, All-cons, IsPlainInsn, IsPlain, Instruction, PlanData, form, HasNoMask, arith}
use Rattle.sf_insn.specs.declared.ops.Test.TheVariants as tests
use Rattle.sf_profile.proofs.RunLemmas.{insn_of}
use Rattle.sf_profile.proofs.JumpLemmas.{IsKept, AreKept, form_kept}

becomes_plain : (i : Instruction) (n : ℕ) → IsKept ⊥ (Unit {0}) i n → IsPlainInsn (insn_of i)
becomes_plain i n h = grind arith

become_plain : (tail : ℕ) (code : List Instruction) → AreKept ⊥ (Unit {0}) tail code
    → All IsPlainInsn (map insn_of code)
become_plain tail [] h = All-nil IsPlainInsn
become_plain tail (i ∷ code) h =
    All-cons IsPlainInsn (insn_of i) (map insn_of code) (becomes_plain i _ h.0) (become_plain tail code h.1)

pub form_plain : (plan : PlanData) → HasNoMask plan → IsPlain (map insn_of (form plan) ∷ [])
form_plain plan h =
    All-cons (λ p. All IsPlainInsn p) (map insn_of (form plan)) []
    (become_plain 0 (form plan) (form_kept ⊥ (Unit {0}) plan
    (λ k d lt j r less. (λ none. absurd none, λ u. h k d lt j r less))))
    (All-nil (λ p. All IsPlainInsn p))
