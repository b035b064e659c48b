use Rattle.sf_dom.proofs.Common.{common_steps, ◌≡◌, ℕ, ◌<◌, ◌≤◌, ◌^◌, ◌-◌, min, arith, sym, ap, ◌∙◌, inl, inr, false, ◌&&◌, eqb, eq-eqb, cases_lt, bit_and, bit_or, bit_at, w32, bit_at_and, bit_at_not, bit_at-lt, bit_at-zero, bit_at_above, Known, HasBits, IsNarrower, AreApart, freedom, bit_at-complement}
use Rattle.sf_dom.proofs.Bits.{bits-le, bits-of-or}

-- no bound and no known bit is lost
pub narrowed : (k : Known) (low high y p : ℕ) → k.low ≤ low → high ≤ k.high
    → IsNarrower k (record { low = low; high = high; zeros = bit_or k.zeros y; ones = bit_or k.ones p })
narrowed k low high y p a b = grind (arith, common_steps, bits-of-or)

pub IsNarrower-trans : (a b c : Known) → IsNarrower a b → IsNarrower b c → IsNarrower a c
IsNarrower-trans a b c h k = grind (arith, common_steps)

pub IsNarrower-refl : (a : Known) → IsNarrower a a
IsNarrower-refl a = grind (arith, common_steps)

-- a round that changes something lessens what is not known
pub freedom-falls : (new old : Known) → IsNarrower old new → new.low ≤ new.high → new.zeros < 2 ^ 32 → new.ones < 2 ^ 32
    → false ≡ (eqb new.low old.low && (eqb new.high old.high && (eqb new.zeros old.zeros && eqb new.ones old.ones)))
    → freedom new < freedom old
freedom-falls new old h ordered fz fo ne = search (arith, bits-le, cases_lt, eq-eqb)

pub AreApart-and : (z o : ℕ) → bit_and z o ≡ 0 → AreApart z o
AreApart-and z o e i =
    let b : min (bit_at z i) (bit_at o i) ≡ 0 = sym (bit_at_and z o i) ∙ ap (λ m. bit_at m i) e ∙ bit_at-zero i in
    omega (arith, b, bit_at-lt z i, bit_at-lt o i)

-- the known bits of a number's complement are those of the number with zeros and ones changed about
pub HasBits-complement : (n z o : ℕ) → n < 2 ^ 32 → z < 2 ^ 32 → HasBits n z o
    → HasBits (4294967295 - n) o z
HasBits-complement n z o fn fz h = record {
  zero = λ i. omega (arith, h.one i, bit_at-complement n i fn);
  one = λ i. elim (cases_lt i 32) [
    | inl l ↦ omega (arith, h.zero i, bit_at_not w32 n i fn l)
    | inr l ↦ omega (arith, bit_at_above z 32 i fz l)
  ];
}
