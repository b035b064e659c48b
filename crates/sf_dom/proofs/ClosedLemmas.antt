-- What reduction leaves is closed, and is the widest such knowledge.
use Rattle.sf_dom.proofs.Common.{◌≡◌, ◌≢◌, ℕ, suc, pow-suc, ◌<◌, ◌≤◌, ◌^◌, ◌-◌, ◌+◌, ◌*◌, ◌/◌, ◌%◌, min, max, arith, refl, sym, ap, ◌∙◌, inl, inr, cases_lt, bit_and, bit_or, bit_xor, bit_at, w32, shr-shr, shr_split, xor_shr, pow_pos, or_lt, and_lt, pow_mono, bit_at_and, bit_at_or, bit_at_not, bit_at_xor, bit_at-lt, bit_at-zero, bit_at_above, bit_at_mask_below, bit_at_mask_inside, same_from_bits, Known, Has, HasBits, IsNarrower, known_of, AreApart, IsLeadingMask, IsClosed, IsClosedWord, HasNone, bit_at-complement, common_steps}
use Rattle.sf_dom.proofs.Reductions.{AreApart-and}
use Rattle.sf_dom.proofs.Bits.{div_mono, bits-le, join-bits, ones-le, zeros-le}

no-bits : (n : ℕ) → bit_xor n n ≡ 0
no-bits n = grind (arith, common_steps, bit_at_xor, bit_at-zero, same_from_bits)

-- from a bit on that two numbers agree from, they agree from each higher bit too
agree-above : (low high j i : ℕ) → j ≤ i → low / 2 ^ j ≡ high / 2 ^ j → low / 2 ^ i ≡ high / 2 ^ i
agree-above low high j i l e =
    let d : j + (i - j) ≡ i = omega arith in
    rw d at (sym (shr-shr low j (i - j)) ∙ ap (λ q. q / 2 ^ (i - j)) e ∙ shr-shr high j (i - j))

pub mask-is : (low high mask j : ℕ) → j ≤ 32 → mask ≡ 2 ^ 32 - 2 ^ j → low / 2 ^ j ≡ high / 2 ^ j
    → 2 ^ j ≤ 2 * bit_xor low high + 1 → IsLeadingMask low high mask
mask-is low high mask j lj em e top = record {
  only = λ i h. elim (cases_lt i j) [
    | inl l ↦ absurd (omega (arith, ap (λ m. bit_at m i) em, bit_at_mask_below j 32 i l))
    | inr l ↦ agree-above low high j i l e
  ];
  all = λ i li h. elim (cases_lt i j) [ inl l ↦ absurd (below i l h) | inr l ↦ rw em (bit_at_mask_inside j 32 i l li) ];
}
  where
    below : (i : ℕ) → i < j → low / 2 ^ i ≡ high / 2 ^ i → ⊥
    below i l h =
        let x : ℕ = bit_xor low high in
        let none : bit_xor (low / 2 ^ i) (high / 2 ^ i) ≡ 0 = rw h (no-bits (high / 2 ^ i)) in
        let small : x / 2 ^ i ≡ 0 = xor_shr low high i ∙ none in
        let split = shr_split x i in
        let rest : x % 2 ^ i < 2 ^ i = omega (arith, pow_pos i) in
        let less : x < 2 ^ i = omega (arith, rw small at split) in
        let up : 2 ^ suc i ≤ 2 ^ j = pow_mono {i = suc i} {j = j} l in
        omega (arith, pow-suc i)

-- the knowledge that a number gives
pub closed-number : (n : ℕ) → n < 2 ^ 32 → IsClosed (known_of n n (4294967295 - n) n)
closed-number n f = record {
  ordered = omega arith;
  fits = f;
  apart = λ i. bit_at-complement n i f;
  low = omega arith;
  high = omega arith;
  leading = λ i l e. (bit_at_not w32 n i f l, refl);
}

-- the leading bits are known in every closed knowledge that is no wider
pub leading-in : (k s : Known) (low high mask : ℕ) → IsClosed s → IsNarrower k s → low < 2 ^ 32 → low ≤ s.low
    → s.high ≤ high → IsLeadingMask low high mask
    → IsNarrower (known_of low high (bit_or k.zeros (bit_and (4294967295 - low) mask))
    (bit_or k.ones (bit_and low mask))) s
leading-in k s low high mask h n fl a b m =
    let o = h.ordered in
    let same : (i : ℕ) → bit_at mask i ≡ 1 → i < 32 → (bit_at s.zeros i ≡ 1 - bit_at low i)
    × (bit_at s.ones i ≡ bit_at low i) = λ i e li.
    let q = m.only i e in
    let up : low / 2 ^ i ≤ s.low / 2 ^ i = div_mono low s.low i a in
    let mid : s.low / 2 ^ i ≤ s.high / 2 ^ i = div_mono s.low s.high i o in
    let down : s.high / 2 ^ i ≤ high / 2 ^ i = div_mono s.high high i b in
    let el : s.low / 2 ^ i ≡ low / 2 ^ i = omega arith in
    let t = h.leading i li (omega arith) in
    rw (ap (λ q. q % 2) el) at t in
    record {
      low = a;
      high = b;
      zeros = λ i. part _ _ _ _ _ (bit_at_or k.zeros (bit_and (4294967295 - low) mask) i
          ∙ ap (max (bit_at k.zeros i)) (bit_at_and (4294967295 - low) mask i)) (n.zeros i) (λ e. elim (cases_lt i 32) [
            | inl l ↦ let t = same i e l in omega (arith, bit_at_not w32 low i fl l)
            | inr l ↦ omega (arith, bit_at_above (4294967295 - low) 32 i (omega arith) l)
          ]) (bit_at-lt mask i);
      ones = λ i. part _ _ _ _ _ (bit_at_or k.ones (bit_and low mask) i
          ∙ ap (max (bit_at k.ones i)) (bit_at_and low mask i)) (n.ones i) (λ e. elim (cases_lt i 32) [
            | inl l ↦ let t = same i e l in omega arith
            | inr l ↦ omega (arith, bit_at_above low 32 i fl l)
          ]) (bit_at-lt mask i);
    }
  where
    part : (t b x m s : ℕ) → t ≡ max b (min x m) → b ≤ s → (m ≡ 1 → x ≤ s) → m < 2 → t ≤ s
    part t b x m s e h i l = elim (cases_lt 0 m) [
      | inl p ↦ let q = i (omega arith) in omega arith
      | inr p ↦ omega arith
    ]

-- a round keeps every closed knowledge that is no wider
pub round-widest : (k s : Known) (low high mask : ℕ) → low ≡ max k.low k.ones
    → high ≡ min k.high (4294967295 - k.zeros) → low < 2 ^ 32 → IsLeadingMask low high mask → IsClosed s
    → IsNarrower k s → IsNarrower (known_of low high (bit_or k.zeros (bit_and (4294967295 - low) mask))
    (bit_or k.ones (bit_and low mask))) s
round-widest k s low high mask el eh fl m h n =
    let zeros = bits-le k.zeros s.zeros n.zeros in
    let ones = bits-le k.ones s.ones n.ones in
    leading-in k s low high mask h n fl (omega arith) (omega arith) m

-- nothing is left where the ends have passed each other
pub none-between : (k : Known) (low high : ℕ) → low ≡ max k.low k.ones → high ≡ min k.high (4294967295 - k.zeros)
    → high < low → HasNone IsClosed k
none-between k low high el eh h = grind (arith, common_steps, bits-le)

-- nor where a bit is known to be both
pub none-both : (k : Known) → bit_and k.zeros k.ones ≢ 0 → HasNone IsClosed k
none-both k h = λ s t n. h (same_from_bits (bit_and k.zeros k.ones) 0 (λ i. bit_at_and k.zeros k.ones i
    ∙ omega (arith, n.zeros i, n.ones i, t.apart i) ∙ sym (bit_at-zero i)))

-- what has the leading bits of its ends is closed
pub closed-leading : (r : Known) (z o mask : ℕ) → r.low ≤ r.high → r.high < 2 ^ 32 → AreApart r.zeros r.ones
    → r.ones ≤ r.low → r.high + r.zeros ≤ 4294967295 → IsLeadingMask r.low r.high mask
    → r.zeros ≡ bit_or z (bit_and (4294967295 - r.low) mask) → r.ones ≡ bit_or o (bit_and r.low mask) → IsClosed r
closed-leading r z o mask ord fits apart lo hi m ez eo = record {
  ordered = ord;
  fits = fits;
  apart = apart;
  low = lo;
  high = hi;
  leading = λ i l e.
      let zeros = ap (λ b. bit_at b i) ez ∙ bit_at_or z (bit_and (4294967295 - r.low) mask) i in
      let ones = ap (λ b. bit_at b i) eo ∙ bit_at_or o (bit_and r.low mask) i in
      let none = bit_at_and (4294967295 - r.low) mask i in let some = bit_at_and r.low mask i in
      let marked = m.all i l e in let other = bit_at_not w32 r.low i (omega arith) l in let one = apart i in
      let bit = bit_at-lt r.low i in (omega arith, omega arith);
}

-- a round that changes nothing is the last
pub round-last : (k r : Known) (mask : ℕ) → r.low ≡ max k.low k.ones → r.high ≡ min k.high (4294967295 - k.zeros)
    → k.zeros < 2 ^ 32 → r.low ≤ r.high → r.high < 2 ^ 32 → bit_and k.zeros k.ones ≡ 0 → IsLeadingMask r.low r.high mask
    → r.zeros ≡ bit_or k.zeros (bit_and (4294967295 - r.low) mask) → r.ones ≡ bit_or k.ones (bit_and r.low mask)
    → r ≡ k → IsClosed k
round-last k r mask el eh fz ord fits apart m ez eo e = grind (arith, common_steps, AreApart-and, closed-leading)

pub fewer-bits : (k s : Known) (n : ℕ) → IsNarrower k s → HasBits n s.zeros s.ones → HasBits n k.zeros k.ones
fewer-bits k s n h b = grind (arith, common_steps)

-- the reduction of a word
pub word-widest : (k s : Known) (xs : ℕ) (lo hi mask : ℕ) → lo < 2 ^ 32 → IsLeadingMask lo hi mask
    → ((n : ℕ) → k.low ≤ n → n < lo → HasBits n k.zeros k.ones → Has xs n)
    → ((n : ℕ) → hi < n → n ≤ k.high → HasBits n k.zeros k.ones → Has xs n) → IsClosedWord xs s → IsNarrower k s
    → IsNarrower (known_of lo hi (bit_or k.zeros (bit_and (4294967295 - lo) mask)) (bit_or k.ones (bit_and lo mask))) s
word-widest k s xs lo hi mask fl m up down h n =
    let nl = n.low in let nh = n.high in let a : lo ≤ s.low = elim (cases_lt s.low lo) [
      | inl l ↦ absurd (h.tight.low.kept (up s.low nl l (fewer-bits k s s.low n h.tight.low.admitted.bits)))
      | inr l ↦ l
    ] in
    let b : s.high ≤ hi = elim (cases_lt hi s.high) [
      | inl l ↦ absurd (h.tight.high.kept (down s.high l nh (fewer-bits k s s.high n h.tight.high.admitted.bits)))
      | inr l ↦ l
    ] in
    leading-in k s lo hi mask h.known n fl a b m

-- what a mask marks of the ends of an interval that agree there
marked : (low mask n : ℕ) → low < 2 ^ 32 → ((i : ℕ) → bit_at mask i ≡ 1 → bit_at n i ≡ bit_at low i)
    → HasBits n (bit_and (4294967295 - low) mask) (bit_and low mask)
marked low mask n l same = grind (arith, common_steps, cases_lt, bit_at_and, bit_at-lt, bit_at-complement)

pub word-closed : (k r : Known) (xs : ℕ) (mask : ℕ) → r.low ≤ r.high → r.high < 2 ^ 32 → IsLeadingMask r.low r.high mask
    → k.zeros < 2 ^ 32 → mask < 2 ^ 32 → r.zeros ≡ bit_or k.zeros (bit_and (4294967295 - r.low) mask)
    → r.ones ≡ bit_or k.ones (bit_and r.low mask) → HasBits r.low k.zeros k.ones → ¬ Has xs r.low
    → HasBits r.high k.zeros k.ones → ¬ Has xs r.high → IsClosedWord xs r
word-closed k r xs mask ord fits m fz fm ez eo bl kl bh kh =
    let fl : r.low < 2 ^ 32 = omega arith in
    let f : r.zeros < 2 ^ 32 = rw ez (or_lt 32 k.zeros (bit_and (4294967295 - r.low) mask) fz
    (and_lt 32 (4294967295 - r.low) mask (omega arith) fm)) in
    let low : HasBits r.low r.zeros r.ones = rw (ez, eo) (join-bits r.low k.zeros k.ones _ _ bl
    (marked r.low mask r.low fl (λ i e. refl))) in
    let high : HasBits r.high r.zeros r.ones = rw (ez, eo) (join-bits r.high k.zeros k.ones _ _ bh
    (marked r.low mask r.high fl (λ i e. sym (ap (λ q. q % 2) (m.only i e))))) in
    record {
      known = closed-leading r k.zeros k.ones mask ord fits (λ i. omega (arith, low.zero i, low.one i))
          (ones-le r.low r.zeros r.ones low) (omega (arith, zeros-le r.high r.zeros r.ones fits f high)) m ez eo;
      tight = record {
        low = record { admitted = record { above = omega arith; below = ord; bits = low }; kept = kl };
        high = record { admitted = record { above = ord; below = omega arith; bits = high }; kept = kh };
      };
    }
