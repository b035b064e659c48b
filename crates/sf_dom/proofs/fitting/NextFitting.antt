-- The next number that has the known bits. A known bit that is made 1 passes a carry on, as an open bit that is 1 does.
use Rattle.sf_dom.proofs.Common.{◌≡◌, ℕ, zero, suc, ◌<◌, ◌≤◌, ◌+◌, ◌-◌, ◌*◌, ◌/◌, ◌%◌, arith, ap, ◌∙◌, inl, inr, sym, cases_lt, and_le_l, and_le_r, and_shr, or_shr, and_mod, or_mod, and_or_self, or_disjoint, or_add_and, bit_and, bit_or, bit_at, bit_at_and, bit_at_lowest, bit_at-suc, bit_at-lt, bit_at-zero, HasBits, AreApart, common_steps}
use Rattle.sf_dom.proofs.Bits.{no-zeros, or-same}

-- the known bits of a number are those of its lowest bit and of its half
pub HasBits-lowest : (n z o : ℕ) → HasBits n z o → (z % 2 + n % 2 ≤ 1) × (o % 2 ≤ n % 2)
HasBits-lowest n z o h = (
  rw (bit_at_lowest z, bit_at_lowest n) at (h.zero 0),
  rw (bit_at_lowest o, bit_at_lowest n) at (h.one 0),
)

pub HasBits-half : (n z o : ℕ) → HasBits n z o → HasBits (n / 2) (z / 2) (o / 2)
HasBits-half n z o h = record {
  zero = λ i. rw (bit_at-suc z i, bit_at-suc n i) at (h.zero (suc i));
  one = λ i. rw (bit_at-suc o i, bit_at-suc n i) at (h.one (suc i));
}

pub AreApart-half : (z o : ℕ) → AreApart z o → AreApart (z / 2) (o / 2)
AreApart-half z o h = λ i. rw (bit_at-suc z i, bit_at-suc o i) at (h (suc i))

pub AreApart-lowest : (z o : ℕ) → AreApart z o → z % 2 + o % 2 ≤ 1
AreApart-lowest z o h = rw (bit_at_lowest z, bit_at_lowest o) at (h 0)

pub HasBits-from_half : (n z o : ℕ) → z % 2 + n % 2 ≤ 1 → o % 2 ≤ n % 2
    → HasBits (n / 2) (z / 2) (o / 2) → HasBits n z o
HasBits-from_half n z o a b h = record { zero = zeros; one = ones }
  where
    zeros : (i : ℕ) → bit_at z i + bit_at n i ≤ 1
    zeros zero = rw (bit_at_lowest z, bit_at_lowest n) a
    zeros (suc i) = rw (bit_at-suc z i, bit_at-suc n i) (h.zero i)

    ones : (i : ℕ) → bit_at o i ≤ bit_at n i
    ones zero = rw (bit_at_lowest o, bit_at_lowest n) b
    ones (suc i) = rw (bit_at-suc o i, bit_at-suc n i) (h.one i)

-- a number made of its half and its lowest bit
pub HasBits-double : (m b z o : ℕ) → b < 2 → z % 2 + b ≤ 1 → o % 2 ≤ b → HasBits m (z / 2) (o / 2)
    → HasBits (2 * m + b) z o
HasBits-double m b z o l x y h = grind (arith, common_steps, HasBits-from_half)

-- a number that has no bit of the one mask, and all of the other
pub HasBits-fits : (n z o : ℕ) → bit_and n z ≡ 0 → bit_and n o ≡ o → HasBits n z o
HasBits-fits n z o ez eo = record {
  zero = λ i. omega (
    arith,
    sym (bit_at_and n z i) ∙ ap (λ m. bit_at m i) ez
        ∙ bit_at-zero i,
    bit_at-lt n i,
    bit_at-lt z i,
  );
  one = λ i. omega (arith, sym (bit_at_and n o i) ∙ ap (λ m. bit_at m i) eo);
}

-- a number without some bits, and with others
abbrev fitted : ℕ → ℕ → ℕ → ℕ
fitted x z o = bit_or (x - bit_and x z) o

fitted-half : (x z o : ℕ) → bit_and x z % 2 ≡ 0
    → (fitted x z o / 2 ≡ fitted (x / 2) (z / 2) (o / 2)) × (fitted x z o % 2 ≡ bit_or (x % 2) (o % 2))
fitted-half x z o even =
    let less = and_le_l x z in
    let taken : bit_and x z / 2 ≡ bit_and (x / 2) (z / 2) = and_shr x z 1 in
    let half : (x - bit_and x z) / 2 ≡ x / 2 - bit_and (x / 2) (z / 2) = omega (arith, less, taken, even) in
    let lowest : (x - bit_and x z) % 2 ≡ x % 2 = omega (arith, less, even) in (
      or_shr (x - bit_and x z) o 1 ∙ ap (λ d. bit_or d (o / 2)) half,
      or_mod (x - bit_and x z) o 1 ∙ ap (λ d. bit_or d (o % 2)) lowest,
    )

fitted-same : (a z o : ℕ) → HasBits a z o → fitted (a + z) z o ≡ a
fitted-same a z o h =
    let sum : bit_or a z ≡ a + z = or_disjoint a z (no-zeros a z o h) in
    let taken : bit_and (a + z) z ≡ z = rw sum at (and_or_self z a) in
    let left : a + z - z ≡ a = omega arith in
    rw (taken, left) (or-same a o h.one)

-- r is the least number above a that has the bits
pub record IsNext (a z o r : ℕ) : Type 0 where
  pub above : a < r
  pub bits : HasBits r z o
  pub least : (n : ℕ) → a < n → HasBits n z o → r ≤ n

-- where the lowest bit is open, and 0
next-open : (a z o : ℕ) → HasBits a z o → a % 2 + z % 2 < 1 → IsNext a z o (fitted (a + z + 1) z o)
next-open a z o h none =
    let x = a + z + 1 in let low = HasBits-lowest a z o h in
    let halves = fitted-half x z o (omega (arith, and_mod x z 1, and_le_r (x % 2) (z % 2), none)) in
    let sum : x / 2 ≡ a / 2 + z / 2 = omega (arith, none) in
    let half : fitted x z o / 2 ≡ a / 2 = halves.0 ∙ ap (λ y. fitted y (z / 2) (o / 2)) sum
    ∙ fitted-same (a / 2) (z / 2) (o / 2) (HasBits-half a z o h) in
    let one : x % 2 ≡ 1 = omega (arith, none) in
    let no : o % 2 ≡ 0 = omega (arith, none, low.1) in
    let lowest : fitted x z o % 2 ≡ 1 = rw (one, no) at halves.1 in
    let is : fitted x z o ≡ 2 * (a / 2) + 1 = omega (arith, half, lowest) in
    rw is record {
      above = omega arith;
      bits = HasBits-double (a / 2) 1 z o (omega arith) (omega (arith, none)) (omega arith) (HasBits-half a z o h);
      least = λ n l _. omega (arith, l, none);
    }

-- where the lowest bit is known, or 1: the next half comes
next-carried : (a z o : ℕ) → AreApart z o → HasBits a z o → 1 ≤ a % 2 + z % 2
    → IsNext (a / 2) (z / 2) (o / 2) (fitted (a / 2 + z / 2 + 1) (z / 2) (o / 2))
    → IsNext a z o (fitted (a + z + 1) z o)
next-carried a z o apart h some up =
    let x = a + z + 1 in
    let r = fitted (a / 2 + z / 2 + 1) (z / 2) (o / 2) in
    let low = HasBits-lowest a z o h in
    let even : x % 2 ≡ 0 = omega (arith, low.0, some) in
    let halves = fitted-half x z o (omega (arith, and_mod x z 1, and_le_l (x % 2) (z % 2), even)) in
    let sum : x / 2 ≡ a / 2 + z / 2 + 1 = omega (arith, low.0, some) in
    let half : fitted x z o / 2 ≡ r = halves.0 ∙ ap (λ y. fitted y (z / 2) (o / 2)) sum in
    let lowest : fitted x z o % 2 ≡ bit_or 0 (o % 2) = rw even at halves.1 in
    let is : fitted x z o ≡ 2 * r + o % 2 = omega (arith, half, lowest, or_add_and 0 (o % 2), and_le_l 0 (o % 2)) in
    rw is record {
      above = omega (arith, up.above);
      bits = HasBits-double r (o % 2) z o (omega arith) (AreApart-lowest z o apart) (omega arith) up.bits;
      least = λ n l b.
          let bit = HasBits-lowest n z o b in
          let half = up.least (n / 2) (omega (arith, l, bit.0, bit.1, low.0, low.1, some)) (HasBits-half n z o b) in
          omega (arith, half, bit.1);
    }

next-within : (k a z o : ℕ) → a + z ≤ k → AreApart z o → HasBits a z o → IsNext a z o (fitted (a + z + 1) z o)
next-within zero a z o enough apart h = next-open a z o h (omega (arith, enough))
next-within (suc k) a z o enough apart h = elim (cases_lt (a % 2 + z % 2) 1) [
  | inl none ↦ next-open a z o h none
  | inr some ↦ next-carried a z o apart h some (next-within k (a / 2) (z / 2) (o / 2) (omega (arith, enough, some))
      (AreApart-half z o apart) (HasBits-half a z o h))
]

pub next : (a z o : ℕ) → AreApart z o → HasBits a z o → IsNext a z o (bit_or (a + z + 1 - bit_and (a + z + 1) z) o)
next a z o apart h = next-within (a + z) a z o (omega arith) apart h

-- what the search for a fitting number is proved by
pub ruleset fitting_steps = (common_steps, AreApart-half, AreApart-lowest, HasBits-lowest, HasBits-half, HasBits-double)
