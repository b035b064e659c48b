-- How the numbers of two answers tell how the answers are related.
use Rattle.std.proofs.Common.{◌≡◌, ◌≢◌, ℕ, ◌^◌, ◌<◌, sym, ap, ◌∙◌, arith}
use Rattle.std.specs.Prelude.{nat_lt, if◌then◌else◌}
use Rattle.std.proofs.lemmas.Bool.Decides.{nat_tests}
use Rattle.std.proofs.lemmas.Nat.{and_mask}
use Rattle.std.proofs.lemmas.Nat.Bits.{and_high_mask}
use Rattle.sf_relations.specs.Common.{Answer, action_bits, data_bits, action_number, action_of, reach_by, merged_of, answer_with, Relation, Looser, Tighter, Different, Pretended}
use Rattle.sf_run.specs.laws.AnswerLaws.{number-action_of}
use Rattle.sf_relations.specs.Relations.{reach_of, AreRelated}
use Rattle.sf_relations.specs.Numbers.{operation_of}

-- two numbers of one answer are one, where each fits
pub one-number : (m n : ℕ) → m < 2 ^ 32 → n < 2 ^ 32 → answer_with m ≡ answer_with n → m ≡ n
one-number m n lm ln e =
    let action : action_bits m ≡ action_bits n
    = sym (number-action_of (action_bits m)) ∙ ap (λ (a : Answer). action_number a.action) e
    ∙ number-action_of (action_bits n) in
    let info : data_bits m ≡ data_bits n = ap (λ (a : Answer). a.info) e in
    let high_m = and_high_mask 32 16 (omega arith) m lm in
    let high_n = and_high_mask 32 16 (omega arith) n ln in
    omega (arith, action, info, high_m, high_n, and_mask m 16, and_mask n 16)

-- ---- relations by numbers

reach-is : (n : ℕ) → reach_of (action_of (action_bits n)) ≡ reach_by (action_bits n)
reach-is n = ap reach_by (number-action_of (action_bits n))

abbrev flag : ℕ → ℕ → ℕ
flag a b = if nat_lt a b then 1 else 0

less-not-0 : (a b c d : ℕ) → a ≡ c → b ≡ d → a < b → flag c d ≢ 0
less-not-0 a b c d e f l = λ z. grind (arith, nat_tests)

not-0-less : (a b c d : ℕ) → a ≡ c → b ≡ d → flag c d ≢ 0 → a < b
not-0-less a b c d e f h = grind (arith, nat_tests)

-- answers that are related have a number that isn't 0
pub related-not-0 : (r : Relation) (m n : ℕ) → m < 2 ^ 32 → n < 2 ^ 32 → AreRelated r (answer_with m) (answer_with n)
    → merged_of (operation_of r) m n ≢ 0
related-not-0 Looser m n lm ln h = less-not-0 _ _ _ _ (reach-is m) (reach-is n) h
related-not-0 Tighter m n lm ln h = less-not-0 _ _ _ _ (reach-is n) (reach-is m) h
related-not-0 Different m n lm ln h = λ e. h (ap answer_with (grind (arith, nat_tests)))
related-not-0 Pretended m n lm ln h = λ e.
    h.0 (ap answer_with (grind (arith, nat_tests, one-number n 0x00050000 ln (omega arith) h.1)))

-- and back
pub not-0-related : (r : Relation) (m n : ℕ) → m < 2 ^ 32 → n < 2 ^ 32 → merged_of (operation_of r) m n ≢ 0
    → AreRelated r (answer_with m) (answer_with n)
not-0-related Looser m n lm ln h = not-0-less _ _ _ _ (reach-is m) (reach-is n) h
not-0-related Tighter m n lm ln h = not-0-less _ _ _ _ (reach-is n) (reach-is m) h
not-0-related Different m n lm ln h = λ e. h (grind (arith, nat_tests, one-number m n lm ln e))
not-0-related Pretended m n lm ln h =
    let is : n ≡ 0x00050000 = grind (arith, nat_tests) in
    (λ e. h (grind (arith, nat_tests, one-number m n lm ln e)), ap answer_with is)

-- answers that are related differ
pub related-differ : (r : Relation) (a b : Answer) → AreRelated r a b → a ≢ b
related-differ Looser a b h = λ e. absurd (omega (arith, ap (λ (x : Answer). reach_of x.action) e))
related-differ Tighter a b h = λ e. absurd (omega (arith, ap (λ (x : Answer). reach_of x.action) e))
related-differ Different a b h = h
related-differ Pretended a b h = h.0
