-- What is said of the trees of a store holds in the store as it grows.
use Rattle.std.proofs.Common.{◌≡◌, ℕ, ◌<◌, ◌^◌, List, length, sym, subst, ap, arith}
use Rattle.sf_relations.specs.Common.{Insn, Answers, Tree, Bits, value, tree_at, KeepsTrees, input_by, answer_with, IsBehaviour}

-- a tree's value, by its id
pub value_kept : (ts us : List Tree) (id : ℕ) (bits : Bits) → KeepsTrees ts us → id < length ts
    → value (tree_at us id) bits ≡ value (tree_at ts id) bits
value_kept ts us id bits k l = ap (λ (t : Tree). value t bits) (k.same id l)

-- a diagram of a stack's answers
pub behaviour_kept : (ts us : List Tree) (programs : List (List Insn)) (id : ℕ) → KeepsTrees ts us
    → IsBehaviour programs ts id → IsBehaviour programs us id
behaviour_kept ts us programs id k h = record {
  within = omega (arith, h.within, k.longer);
  small = λ bits. subst (λ (n : ℕ). n < 2 ^ 32) (sym (value_kept ts us id bits k h.within)) (h.small bits);
  answers = λ bits. subst (λ (n : ℕ). Answers programs (input_by bits) (answer_with n))
      (sym (value_kept ts us id bits k h.within)) (h.answers bits);
}
