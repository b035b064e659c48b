-- What is known of a word forces the result of a test against a number.
use Rattle.sf_dom.proofs.Common.{common_steps, ◌≡◌, ◌≢◌, ℕ, List, ◌<◌, ◌^◌, ◌-◌, ◌⊎◌, arith, refl, sym, ap, ◌∙◌, inl, inr, cases_lt, nat_tests, bit_at-zero, bit_at-lt, bit_at_or, bit_at_and, bit_at_not, bit_at_above, bit_at, w32, Option, Some, None, IfSome, Bool, true, false, bit_and, bit_or, Test, Equal, AnyBit, OperandsBelow, Node, Word, Known, Has, IsNarrower, AreBitsOf, HasBits, numbers_at, excluded_of, assumed, met, number_known, some_of, none_of, IsClosed, IsClosedAt, HasNone, IsForcedBy, closed-consistent, none-has}
use Rattle.sf_dom.proofs.Bits.{no-zeros}
use Rattle.sf_dom.proofs.CommonBits.{common-bits, common-open, and-zero}
use Rattle.sf_dom.proofs.Lawful.{closed-zeros}
use Rattle.sf_dom.proofs.Passes.{met-below, one-number}
use Rattle.sf_dom.proofs.propagation.Propagations.{word-below}
use Rattle.sf_dom.proofs.Reductions.{IsNarrower-refl}
use Rattle.sf_dom.proofs.TestLaws.{some-cases, at-decided}

pub equal-apart : (k : Known) (n : ℕ) → IsClosed k → (n < k.low) ⊎ (k.high < n) → IsForcedBy IsClosed k Equal n false
unfolding assumed
equal-apart k n h o = record {
  other = λ s is m. omega (arith, m.low, m.high, is.ordered);
  this = grind (arith, common_steps, nat_tests);
  that = grind (arith, common_steps, nat_tests);
}

number-one : (n : ℕ) → IsForcedBy IsClosed (number_known n) Equal n true
unfolding assumed
number-one n = record {
  other = λ s is m. let a = m.low in let b = m.high in let o = is.ordered in grind (arith, nat_tests);
  this = met-below (number_known n) (number_known n) (number_known n) (IsNarrower-refl (number_known n))
      (IsNarrower-refl (number_known n));
  that = met-below (number_known n) (number_known n) (number_known n) (IsNarrower-refl (number_known n))
      (IsNarrower-refl (number_known n));
}

pub equal-one : (k : Known) (n : ℕ) → IsClosed k → k.low ≡ n → k.high ≡ n → IsForcedBy IsClosed k Equal n true
equal-one k n h a b =
    let same : k ≡ number_known n = one-number k (closed-consistent k h) (a ∙ sym b) ∙ ap number_known a in
    rw same (number-one n)

-- known bits of a word are apart
own-bits : (k : Known) → IsClosed k → HasBits k.ones k.zeros k.ones
own-bits k h = record { zero = λ i. h.apart i; one = λ i. omega arith }

some-stays : (k : Known) (n : ℕ) → IsClosed k → n < 2 ^ 32 → bit_and k.ones n ≢ 0 → IsNarrower (some_of n k) k
some-stays k n h f ne =
    let z = closed-zeros k h in
    some-cases n k (λ r. IsNarrower r k)
    (λ e. absurd (ne (common-open k.ones n k.zeros k.ones f z (own-bits k h) ∙ ap (bit_and k.ones) e
    ∙ and-zero k.ones))) (λ nz e.
    let b = common-bits k.ones n k.zeros k.ones _ f z e ne (own-bits k h) in
    record { low = omega arith; high = omega arith; zeros = λ i. omega arith; ones = b.one })
    (λ nz e. IsNarrower-refl k)

pub common-true : (k : Known) (n : ℕ) → IsClosed k → n < 2 ^ 32 → bit_and k.ones n ≢ 0
    → IsForcedBy IsClosed k AnyBit n true
unfolding assumed
common-true k n h f ne = record {
  other = rw (at-decided none_of (number_known n) k refl) (λ s is m. absurd (ne (no-zeros k.ones n 0 (record {
    zero = λ i. omega (
      arith,
      m.zeros i,
      m.ones i,
      is.apart i,
      bit_at_or k.zeros
          (bit_or k.zeros n) i,
      bit_at_or k.zeros n i,
      bit_at_or k.ones k.ones i,
    );
    one = λ i. omega (arith, bit_at-zero i);
  }))));
  this = rw (at-decided some_of (number_known n) k refl) (some-stays k n h f ne);
  that = IsNarrower-refl (number_known n);
}

-- bits that are known to be 0
open-bits : (n z : ℕ) → n < 2 ^ 32 → z < 2 ^ 32 → bit_and n (4294967295 - z) ≡ 0 → AreBitsOf n z
open-bits n z f l e i = elim (cases_lt i 32) [
  | inl b ↦ omega (
    arith,
    bit_at_not w32 z i l b,
    sym (bit_at_and n (4294967295 - z) i) ∙ ap (λ m. bit_at m i) e
        ∙ bit_at-zero i,
    bit_at-lt n i,
    bit_at-lt z i,
  )
  | inr g ↦ omega (arith, bit_at_above n 32 i f g)
]

pub common-false : (k : Known) (n : ℕ) → IsClosed k → n < 2 ^ 32 → bit_and n (4294967295 - k.zeros) ≡ 0
    → IsForcedBy IsClosed k AnyBit n false
unfolding assumed
common-false k n h f e =
    grind (arith, common_steps, bit_at_or, closed-zeros, IsNarrower-refl, some-cases, at-decided, open-bits)

-- a number that is excluded for a word
equal-excluded : (kind : Known → Type 0) (k : Known) (n : ℕ) → IsClosed k → n ≢ k.low → n ≢ k.high
    → HasNone kind (met k (met k (number_known n))) → IsForcedBy kind k Equal n false
unfolding assumed
equal-excluded kind k n h a b none = grind (arith, common_steps, nat_tests)

excluded-forces : (ex : List ℕ) (i : ℕ) (k : Known) (n : ℕ) → i < 16 → IsClosedAt ex i k
    → Has (numbers_at ex i) n → IsForcedBy (IsClosedAt ex i) k Equal n false
excluded-forces ex i k n l h c =
    equal-excluded (IsClosedAt ex i) k n h.known (λ e. (h.tight l).low.kept (rw e at c))
    (λ e. (h.tight l).high.kept (rw e at c)) (λ s is m.
    let low : s.low ≡ n = omega (arith, m.low, m.high, is.known.ordered) in
    (is.tight l).low.kept (rw (← low) at c))

-- what forces it by itself, does so for a node
pub forced-at : (ex : List ℕ) (i : ℕ) (k : Known) (test : Test) (n : ℕ) (o : Option Bool)
    → IfSome o (λ b. IsForcedBy IsClosed k test n b) → IfSome o (λ b. IsForcedBy (IsClosedAt ex i) k test n b)
forced-at ex i k test n None h = tt
forced-at ex i k test n (Some b) h = record { other = λ s is m. h.other s is.known m; this = h.this; that = h.that }

pub excluded-node : (ex : List ℕ) (i : ℕ) (k : Known) (n : ℕ) (node : Node) → OperandsBelow i node
    → ((w : ℕ) → node ≡ Word w → i ≡ w) → IsClosedAt ex i k → Has (excluded_of ex node) n
    → IsForcedBy (IsClosedAt ex i) k Equal n false
excluded-node ex i k n (Word v) o own h w =
    let same : i ≡ v = own v refl in
    excluded-forces ex i k n (omega (arith, word-below i (Word v) o v refl)) h (rw (← same) at w)
excluded-node ex i k n m o own h w = absurd (none-has n w)
