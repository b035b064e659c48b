-- Words whose bits are moved, and their products, bit by bit.
use Rattle.sf_behaviour.proofs.Common.{◌≡◌, ℕ, ◌+◌, ◌-◌, ◌*◌, ◌/◌, ◌%◌, ◌<◌, ◌≤◌, ◌^◌, List, length, refl, sym, ap, ◌∙◌, inl, inr, arith, slice_index, bit_at, cases_lt, lt-ltb, le-ltb, pow_pos, pow-add, bit_at-lt, bit_at_cat_low, apply, Tree, Bits, chosen_of, IsTruthOf, IsWordOf, moved, pow-le-pow_right, div-add-mod', mul-mod_first, shr-shr, shr_le, bit_at-zero, bit_at_above, bit_at_cat_high, shifted_by, Direction, Left, Right, add-mod, mod-mod, Mul}
use Rattle.sf_behaviour.proofs.words.WordLemmas.{bit-of, number-small, truth-of-same, word-made}
use Rattle.sf_behaviour.proofs.BitLemmas.{low-all, low-more}

-- ---- bits of shifted numbers

left-bit : (a by i : ℕ) → i < 32 → bit_at ((a * 2 ^ by) % 2 ^ 32) i ≡ bit_at (a * 2 ^ by + 0) i
left-bit a by i l =
    sym (bit_at_cat_low (a * 2 ^ by / 2 ^ 32) 32 ((a * 2 ^ by) % 2 ^ 32) i l)
    ∙ ap (λ (n : ℕ). bit_at n i) (omega (arith, div-add-mod' (a * 2 ^ by) (2 ^ 32)))

right-bit : (a by i : ℕ) → bit_at (a / 2 ^ by) i ≡ bit_at a (by + i)
right-bit a by i = ap (λ (n : ℕ). n % 2) (shr-shr a by i)

-- ---- the moved bits

moved-truth : (d : Direction) {ts : List Tree} {ids : List ℕ} {f : Bits → ℕ} (by : ℕ) {z : ℕ} (i : ℕ)
    → IsWordOf ts ids f → IsTruthOf ts z (λ bits. 0) → i < 32
    → IsTruthOf ts (moved d ids by z i) (λ bits. bit_at (shifted_by d (f bits) by) i)
moved-truth Left {f} by i w h l = elim (cases_lt i by) [
  | inl less ↦ rw (lt-ltb i by less) (truth-of-same h (λ bits.
      sym (left-bit (f bits) by i l ∙ bit_at_cat_low (f bits) by 0 i less ∙ bit_at-zero i)))
  | inr more ↦ rw (le-ltb i by more) (truth-of-same (bit-of (i - by) w (omega arith)) (λ bits.
      sym (left-bit (f bits) by i l ∙ bit_at_cat_high (f bits) by 0 i (pow_pos by) more)))
]
moved-truth Right {f} by i w h l = elim (cases_lt (by + i) 32) [
  | inl less ↦ rw (lt-ltb (by + i) 32 less)
      (truth-of-same (bit-of (by + i) w less) (λ bits. sym (right-bit (f bits) by i)))
  | inr more ↦ rw (le-ltb (by + i) 32 more) (truth-of-same h (λ bits.
      sym (right-bit (f bits) by i ∙ bit_at_above (f bits) 32 (by + i) (number-small bits w) more)))
]

shifted-small : (d : Direction) (a by : ℕ) → a < 2 ^ 32 → shifted_by d a by < 2 ^ 32
shifted-small d a by l = grind (arith, shr_le a by)

pub moved-word : (d : Direction) {ts : List Tree} {ids new : List ℕ} {f : Bits → ℕ} (by : ℕ) {z : ℕ} → length new ≡ 32
    → ((i : ℕ) → i < 32 → slice_index new i ≡ moved d ids by z i) → IsWordOf ts ids f
    → IsTruthOf ts z (λ bits. 0) → IsWordOf ts new (λ bits. shifted_by d (f bits) by)
moved-word d {f} by count each w h =
    word-made 32 refl (λ bits. shifted-small d (f bits) by (number-small bits w))
    (record { count = count; each = λ i l. rw (each i l) (moved-truth d by i w h l) })

-- ---- shifts by words

shift-twice : (d : Direction) (a m k : ℕ) → shifted_by d (shifted_by d a m) k ≡ shifted_by d a (k + m)
shift-twice Left a m k =
    mul-mod_first (a * 2 ^ m) (2 ^ k) (2 ^ 32) ∙ ap (λ (n : ℕ). n % 2 ^ 32) (rw (pow-add 2 k m) (omega arith))
shift-twice Right a m k = shr-shr a m k ∙ ap (λ (n : ℕ). a / 2 ^ n) (omega arith)

-- one more bit of the number of places
shift-more : (d : Direction) (a m b p : ℕ) → b < 2
    → chosen_of b (shifted_by d (shifted_by d a m) p) (shifted_by d a m) ≡ shifted_by d a (b * p + m)
shift-more d a m b p l = grind (arith, shift-twice d a m p)

pub few-places : (i p : ℕ) → i < 5 → p ≡ 2 ^ i → p ≤ 32
few-places i p l e = omega (arith, e, pow-le-pow_right {n = 2} (omega arith) {i = i} {j = 5} (omega arith))

-- before the first bit, with one more bit, and behind the last one
pub shift-begun : (d : Direction) (a b : ℕ) → a < 2 ^ 32 → a ≡ shifted_by d a (b % 2 ^ 0)
shift-begun d a b l = grind arith

pub shift-step : (d : Direction) (n a b p : ℕ) → p ≡ 2 ^ n
    → chosen_of (bit_at b n) (shifted_by d (shifted_by d a (b % 2 ^ n)) p) (shifted_by d a (b % 2 ^ n))
    ≡ shifted_by d a (b % 2 ^ (n + 1))
shift-step d n a b p e =
    grind (arith, shift-more d a (b % 2 ^ n) (bit_at b n) (2 ^ n) (bit_at-lt b n), low-more b n)

-- one more bit of the second number
product-more : (a m b p : ℕ) → b < 2
    → ((a * m) % 2 ^ 32 + chosen_of b ((a * p) % 2 ^ 32) 0) % 2 ^ 32 ≡ (a * (b * p + m)) % 2 ^ 32
product-more a m b p l = grind (arith, mod-mod (a * m) (2 ^ 32), add-mod (a * m) (a * p) (2 ^ 32))

pub product-step : (n a b : ℕ)
    → ((a * (b % 2 ^ n)) % 2 ^ 32 + chosen_of (bit_at b n) ((a * 2 ^ n) % 2 ^ 32) 0) % 2 ^ 32
    ≡ (a * (b % 2 ^ (n + 1))) % 2 ^ 32
product-step n a b =
    product-more a (b % 2 ^ n) (bit_at b n) (2 ^ n) (bit_at-lt b n) ∙ ap (λ (m : ℕ). (a * m) % 2 ^ 32) (low-more b n)

pub product-made : (n a b : ℕ) → n ≡ 32 → b < 2 ^ 32 → (a * (b % 2 ^ n)) % 2 ^ 32 ≡ apply Mul a b
product-made n a b e l = ap (λ (m : ℕ). (a * m) % 2 ^ 32) (low-all n b e l)
