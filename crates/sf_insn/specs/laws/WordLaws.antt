-- Laws of words of which exactly one bit is set.
use Rattle.std.proofs.Common.{◌≡◌, ℕ, zero, suc, ◌+◌, ◌*◌, ◌/◌, ◌%◌, ◌^◌, ◌<◌, inl, inr, refl, ap, subst, ◌∙◌, arith}
use Rattle.std.specs.Int.RustNames.{count_ones}
use Rattle.std.specs.Int.Count.{ones, ones_step}
use Rattle.std.proofs.lemmas.Nat.{zero_from_ones, ones_cat, pow_pos}
use Rattle.std.proofs.Math.Nat.{pow-suc}
use Rattle.std.proofs.lemmas.Bool.{cases_eq}
use Rattle.sf_insn.specs.Words.{IsOneBit}

ones_zero : count_ones 0 ≡ 0
unfolding ones
ones_zero = refl

-- an even number is a power of two where its half is one
bit_above : (w n : ℕ) → ((i : ℕ) × (i < w) × (n / 2 ≡ 2 ^ i)) → n % 2 ≡ 0 → (i : ℕ) × (i < suc w) × (n ≡ 2 ^ i)
bit_above w n (i, lt, half) even = (suc i, omega arith, omega (arith, pow-suc 2 i))

-- a number of w bits of which one is set is a power of two
bit_found : (w n : ℕ) → n < 2 ^ w → count_ones n ≡ 1 → (i : ℕ) × (i < w) × (n ≡ 2 ^ i)
bit_found zero n lt e =
    let z : n ≡ 0 = omega arith in
    absurd (omega (arith, ones_zero, subst (λ (m : ℕ). count_ones m ≡ 1) z e))
bit_found (suc w) n lt e =
    elim (cases_eq (n % 2) 0) [
      | inl even ↦ bit_above w n (bit_found w (n / 2) (omega (arith, pow-suc 2 w)) (omega (arith, ones_step n))) even
      | inr odd ↦
          let rest : n / 2 ≡ 0 = zero_from_ones (n / 2) (omega (arith, ones_step n)) in
          (0, omega arith, omega arith)
    ]

-- a word whose count of ones is 1 has exactly one bit set
pub one_bit_counted : (n : ℕ) → n < 2 ^ 32 → count_ones n ≡ 1 → IsOneBit n
one_bit_counted n lt e = bit_found 32 n lt e

-- a word with exactly one bit set has a count of ones of 1
pub count_of_one_bit : (n : ℕ) → IsOneBit n → count_ones n ≡ 1
unfolding ones
count_of_one_bit n (i, lt, e) =
    let cat = ones_cat i 1 0 (pow_pos i) in
    let same : n ≡ 1 * 2 ^ i + 0 = omega arith in
    ap count_ones same ∙ cat
