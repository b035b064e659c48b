-- What follows from operands of which more is known loses nothing.
use Rattle.sf_dom.proofs.Common.{ℕ, ◌<◌, ◌≤◌, ◌^◌, ◌-◌, ◌+◌, ◌*◌, ◌/◌, ◌%◌, List, arith, inl, inr, cases_lt, nat_tests, bit_at-zero, bit_at_and, bit_at_or, bit_at_above, div-le_self, bit_and, bit_or, BinOp, Mul, Div, Or, And, Lsh, Rsh, Xor, OperandsBelow, Node, Bin, Neg, Known, IsNarrower, AreBitsOf, known_at, forward_known, forward_negated, forward_node, moved_left, moved_right, IsClosed, common_steps, mul-le}
use Rattle.sf_dom.proofs.Bits.{bit_at-mod, bit_at-shl_low, bit_at-shl_high, bit_at-shr, div_mono}
use Rattle.sf_dom.proofs.forward.ForwardLemmas.{div_between}
use Rattle.sf_dom.proofs.Reductions.{IsNarrower-refl}

-- ---- bits

and-of : (a b c d : ℕ) → AreBitsOf a c → AreBitsOf b d → AreBitsOf (bit_and a b) (bit_and c d)
and-of a b c d h k i = omega (arith, bit_at_and a b i, bit_at_and c d i, h i, k i)

or-of : (a b c d : ℕ) → AreBitsOf a c → AreBitsOf b d → AreBitsOf (bit_or a b) (bit_or c d)
or-of a b c d h k i = omega (arith, bit_at_or a b i, bit_at_or c d i, h i, k i)

right-of : (a c s : ℕ) → AreBitsOf a c → AreBitsOf (a / 2 ^ s) (c / 2 ^ s)
right-of a c s h i = omega (arith, bit_at-shr a s i, bit_at-shr c s i, h (s + i))

left-of : (a c s : ℕ) → AreBitsOf a c → AreBitsOf (a * 2 ^ s % 2 ^ 32) (c * 2 ^ s % 2 ^ 32)
left-of a c s h i = elim (cases_lt i 32) [
  | inr l ↦ omega (arith, bit_at_above (a * 2 ^ s % 2 ^ 32) 32 i (omega arith) l)
  | inl l ↦ elim (cases_lt i s) [
    | inl b ↦ omega (arith, bit_at-mod (a * 2 ^ s) 32 i l, bit_at-shl_low a s i b)
    | inr g ↦ omega (
      arith,
      bit_at-mod (a * 2 ^ s) 32 i l,
      bit_at-mod (c * 2 ^ s) 32 i l,
      bit_at-shl_high a s i g,
      bit_at-shl_high c s i g,
      h (i - s),
    )
  ]
]

-- ---- operations

left-high : (a b : Known) → (forward_known Lsh a b).high ≤ 4294967295
unfolding forward_known
left-high a b = grind (arith, nat_tests)

left-narrower : (a c : Known) (s : ℕ) → c.high < 2 ^ 32 → IsNarrower a c → IsNarrower (moved_left a s) (moved_left c s)
left-narrower a c s fc h =
    let la = mul-le a.low (2 ^ s) c.low (2 ^ s) h.low (omega arith) in
    let ha = mul-le c.high (2 ^ s) a.high (2 ^ s) h.high (omega arith) in
    let z = or-of (a.zeros * 2 ^ s % 2 ^ 32) (2 ^ s - 1) (c.zeros * 2 ^ s % 2 ^ 32) (2 ^ s - 1)
    (left-of a.zeros c.zeros s h.zeros) (λ i. omega arith) in
    let o = left-of a.ones c.ones s h.ones in
    grind (arith, nat_tests)

right-narrower : (a c : Known) (s : ℕ) → IsNarrower a c → IsNarrower (moved_right a s) (moved_right c s)
right-narrower a c s h = record {
  low = div_mono a.low c.low s h.low;
  high = div_mono c.high a.high s h.high;
  zeros = or-of (a.zeros / 2 ^ s) (2 ^ 32 - 2 ^ (32 - s)) (c.zeros / 2 ^ s) (2 ^ 32 - 2 ^ (32 - s))
      (right-of a.zeros c.zeros s h.zeros) (λ i. omega arith);
  ones = right-of a.ones c.ones s h.ones;
}

right-high : (a b : Known) (n : ℕ) → a.high ≤ n → (forward_known Rsh a b).high ≤ n
unfolding forward_known
right-high a b n l = let d = div-le_self a.high (2 ^ (b.low % 32)) in grind (arith, nat_tests)

known-narrower : (op : BinOp) (a b c d : Known) → c.low ≤ c.high → d.low ≤ d.high → c.high < 2 ^ 32 → d.high < 2 ^ 32
    → IsNarrower a c → IsNarrower b d → IsNarrower (forward_known op a b) (forward_known op c d)
unfolding forward_known
known-narrower Mul a b c d oc od fc fd h k = grind (arith, common_steps, nat_tests, bit_at-zero, mul-le)
known-narrower Div a b c d oc od fc fd h k =
    grind (arith, common_steps, cases_lt, nat_tests, bit_at-zero, div-le_self, div_between)
known-narrower Or a b c d oc od fc fd h k = grind (arith, common_steps, and-of, or-of)
known-narrower And a b c d oc od fc fd h k = grind (arith, common_steps, and-of, or-of)
known-narrower Xor a b c d oc od fc fd h k = record {
  low = omega arith;
  high = omega arith;
  zeros = or-of (bit_and a.zeros b.zeros) (bit_and a.ones b.ones) (bit_and c.zeros d.zeros) (bit_and c.ones d.ones)
      (and-of a.zeros b.zeros c.zeros d.zeros h.zeros k.zeros) (and-of a.ones b.ones c.ones d.ones h.ones k.ones);
  ones = or-of (bit_and a.zeros b.ones) (bit_and a.ones b.zeros) (bit_and c.zeros d.ones) (bit_and c.ones d.zeros)
      (and-of a.zeros b.ones c.zeros d.ones h.zeros k.ones) (and-of a.ones b.zeros c.ones d.zeros h.ones k.zeros);
}
known-narrower Lsh a b c d oc od fc fd h k =
    let low = k.low in let high = k.high in let l = left-narrower a c (b.low % 32) fc h in
    let top = left-high c d in grind (arith, nat_tests, bit_at-zero)
known-narrower Rsh a b c d oc od fc fd h k =
    let low = k.low in let high = k.high in let r = right-narrower a c (b.low % 32) h in
    let top = right-high c d a.high h.high in grind (arith, nat_tests, bit_at-zero)
known-narrower op a b c d oc od fc fd h k = grind (arith, nat_tests, bit_at-zero)

negated-narrower : (a c : Known) → c.low ≤ c.high → c.high < 2 ^ 32 → IsNarrower a c
    → IsNarrower (forward_negated a) (forward_negated c)
unfolding forward_negated
negated-narrower a c oc fc h = let la = h.low in let ha = h.high in grind (arith, nat_tests, bit_at-zero)

-- what follows for a node, where more has become known of its operands
pub forward-narrower : (old new : List Known) (k : ℕ) (n : Node) → OperandsBelow k n
    → ((j : ℕ) → j < k → IsClosed (known_at new j)) → ((j : ℕ) → j < k → IsNarrower (known_at old j) (known_at new j))
    → IsNarrower (forward_node old n) (forward_node new n)
forward-narrower old new k (Bin op a b) o closed h =
    let c = closed a.0 o.0 in let d = closed b.0 o.1 in
    known-narrower op (known_at old a.0) (known_at old b.0) (known_at new a.0) (known_at new b.0) c.ordered d.ordered
    c.fits d.fits (h a.0 o.0) (h b.0 o.1)
forward-narrower old new k (Neg a) o closed h =
    let c = closed a.0 o in
    negated-narrower (known_at old a.0) (known_at new a.0) c.ordered c.fits (h a.0 o)
forward-narrower old new k n o closed h = IsNarrower-refl _
