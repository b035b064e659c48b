-- Diagrams of numbers, and their fold to an answer.
use Rattle.sf_behaviour.proofs.Common.{◌≡◌, ℕ, ◌+◌, ◌*◌, ◌/◌, ◌%◌, ◌<◌, ◌^◌, Bool, List, [], ◌∷◌, ◌++◌, length, map, refl, sym, ap, ap₂, ◌∙◌, arith, bit_at, if◌then◌else◌, Input, Insn, return_of, Tree, Bits, value, tree_at, KeepsTrees, input_by, IsDiagramOf, nat_lt, and_mask, shr_le, shr-shr, and_high_mask, map_push, IsInput, action_bits, data_bits, action_number, rank, Answers, folded_answer, number-action_of, answer_more, one, returns_of, Answer, IsMerged, folded_of, Fold, answer_with, HasAnswers, IsBehaviour, input-is}
use Rattle.sf_behaviour.proofs.replacing.ReplacingLemmas.{less-if}

-- ---- a number, from its highest bit on

-- one bit more; m is n + 1
pub number-more : (m n number : ℕ) {x s v : ℕ} → m ≡ n + 1 → number < 2 ^ 32 → x ≡ bit_at number n
    → v ≡ (2 * s + x) % 2 ^ 64 → s ≡ number / 2 ^ m → v ≡ number / 2 ^ n
number-more m n number e less bit one before =
    grind (arith, shr_le number n, shr-shr number n 1)

-- ---- the fold

with-if : (b : Bool) (m n : ℕ) → answer_with (if b then m else n) ≡ (if b then answer_with m else answer_with n)
with-if b m n = grind arith

-- the fold of two numbers is the fold of the answer that the first one names with the second
folded-with : (newer older : ℕ) → answer_with (folded_of newer older) ≡ folded_answer (answer_with newer) older
folded-with newer older =
    with-if (nat_lt (rank (action_bits older)) (rank (action_bits newer))) older newer
    ∙ rw (number-action_of (action_bits newer)) refl

-- what programs return, the newest first
abbrev pub returns_on : List (List Insn) → Bits → List ℕ
returns_on ps bits = map (λ p. return_of p (input_by bits)) ps

-- one filter more
pub fold-more : (ps : List (List Insn)) (p : List Insn) (ts us vs : List Tree) (so_far id new : ℕ)
    → HasAnswers (returns_on ps) ts so_far → KeepsTrees ts us → IsDiagramOf us id (λ bits. return_of p (input_by bits))
    → ((bits : Bits) → value (tree_at us id) bits < 2 ^ 32) → new < length vs
    → IsMerged Fold (tree_at us so_far) (tree_at us id) (tree_at vs new) → HasAnswers (returns_on (ps ++ p ∷ [])) vs new
fold-more ps p ts us vs so_far id new before k h small within merged = record {
  within = within;
  small = λ bits. rw (is bits) (less-if (nat_lt (rank (action_bits (older bits))) (rank (action_bits (newer bits))))
      (older bits) (newer bits) (rw (h.values bits) at (small bits)) (before.small bits));
  answers = λ bits.
      let listed = map_push (λ (q : List Insn). return_of q (input_by bits)) ps p in
      rw (listed, is bits, folded-with (newer bits) (older bits))
      (answer_more (returns_on ps bits) (answer_with (newer bits)) (older bits) (before.answers bits));
}
  where
    newer : Bits → ℕ
    newer bits = value (tree_at ts so_far) bits

    older : Bits → ℕ
    older bits = return_of p (input_by bits)

    is : (bits : Bits) → value (tree_at vs new) bits ≡ folded_of (newer bits) (older bits)
    is bits = merged.values bits
        ∙ ap₂ folded_of (ap (λ (t : Tree). value t bits) (k.same so_far before.within)) (h.values bits)

-- ---- equal answers

-- a return value is told by the answer that it names
pub same-answer : (m n : ℕ) → m < 2 ^ 32 → n < 2 ^ 32 → answer_with m ≡ answer_with n → m ≡ n
same-answer m n lm ln e =
    let action : action_bits m ≡ action_bits n
    = sym (number-action_of (action_bits m)) ∙ ap (λ (a : Answer). action_number a.action) e
    ∙ number-action_of (action_bits n) in
    let data_is : data_bits m ≡ data_bits n = ap (λ (a : Answer). a.info) e in
    let high_m = and_high_mask 32 16 (omega arith) m lm in
    let high_n = and_high_mask 32 16 (omega arith) n ln in
    omega (arith, action, data_is, high_m, high_n, and_mask m 16, and_mask n 16)

-- stacks that answer alike have diagrams with one value
pub same-values : (p q : List (List Insn)) (ts : List Tree) (i j : ℕ) → IsBehaviour p ts i → IsBehaviour q ts j
    → ((d : Input) (a : Answer) → IsInput d → Answers p d a → Answers q d a) → (bits : Bits)
    → value (tree_at ts i) bits ≡ value (tree_at ts j) bits
same-values p q ts i j h k alike bits =
    same-answer (value (tree_at ts i) bits) (value (tree_at ts j) bits) (h.small bits) (k.small bits)
    (one (returns_of q (input_by bits)) (answer_with (value (tree_at ts i) bits))
    (answer_with (value (tree_at ts j) bits))
    (alike (input_by bits) (answer_with (value (tree_at ts i) bits)) (input-is bits) (h.answers bits)) (k.answers bits))
