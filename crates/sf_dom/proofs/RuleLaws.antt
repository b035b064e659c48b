-- Laws of the rules, from the definitions alone.
use Rattle.sf_dom.proofs.Common.{common_steps, ◌≡◌, ℕ, List, ◌<◌, ◌≤◌, ◌^◌, ◌-◌, ◌*◌, ◌/◌, ◌%◌, arith, inl, inr, cases_lt, nat_tests, bit_at-zero, bit_at-lt, bit_at_not, bit_at_above, w32, div-le_self, BinOp, Mul, Div, Or, And, Lsh, Rsh, Xor, apply, negation_of, Known, Has, Admits, Leaves, IsNarrower, known_of, numbers_at, bit_at-complement, constant-admits, between, full, forward_known, forward_negated, moved_left, IsClosed, IsClosedAt, IsClosedWord, IsWidest, HasNone, mul-le-mul_right, le_or_l, le_or_r, or_lt, xor_lt, and_le_l, and_le_r, moved_right, mul-le}
use Rattle.sf_dom.proofs.ClosedLemmas.{closed-number}
use Rattle.sf_dom.proofs.Reductions.{IsNarrower-refl}
use Rattle.sf_dom.proofs.forward.ForwardLemmas.{div_between}
use Rattle.sf_dom.proofs.Bits.{bits-le, and-bits, or-bits, xor-bits, shl-bits, shr-bits, div_mono}

pub between-admits : (low high n : ℕ) → low ≤ n → n ≤ high → Admits (between low high) n
between-admits low high n a b = grind (arith, common_steps, bit_at-zero, bit_at-lt)

pub full-admits : (n : ℕ) → n < 2 ^ 32 → Admits full n
full-admits n f = between-admits 0 4294967295 n (omega arith) (omega arith)

left-admits : (a : Known) (x s : ℕ) → Admits a x → Admits (moved_left a s) (x * 2 ^ s % 2 ^ 32)
left-admits a x s h =
    let b = shl-bits x a.zeros a.ones s h.bits in let low = mul-le-mul_right (2 ^ s) h.above in
    let high = mul-le-mul_right (2 ^ s) h.below in grind (arith, nat_tests)

right-admits : (a : Known) (x s : ℕ) → s < 32 → a.high < 2 ^ 32 → Admits a x → Admits (moved_right a s) (x / 2 ^ s)
right-admits a x s l f h =
    let below = h.below in
    record {
      above = div_mono a.low x s h.above;
      below = div_mono x a.high s below;
      bits = shr-bits x a.zeros a.ones s l (omega arith) h.bits;
    }

-- each result of an operation on numbers that the operands may have is admitted by the rule
pub forward-sound : (op : BinOp) (a b : Known) (x y : ℕ) → a.high < 2 ^ 32 → b.high < 2 ^ 32 → Admits a x → Admits b y
    → Admits (forward_known op a b) (apply op x y)
unfolding forward_known
forward-sound Mul a b x y fa fb hx hy =
    let up = mul-le x y a.high b.high hx.below hy.below in let down = mul-le a.low b.low x y hx.above hy.above in
    grind (arith, nat_tests, bit_at-zero, bit_at-lt)
forward-sound Div a b x y fa fb hx hy =
    grind (arith, common_steps, cases_lt, nat_tests, bit_at-zero, bit_at-lt, div-le_self, div_between)
forward-sound Or a b x y fa fb hx hy =
    let l = or_lt 32 x y (omega (arith, hx.below)) (omega (arith, hy.below)) in
    grind (arith, common_steps, le_or_l, le_or_r, or-bits)
forward-sound And a b x y fa fb hx hy = grind (arith, common_steps, and_le_l, and_le_r, and-bits)
forward-sound Xor a b x y fa fb hx hy =
    let l = xor_lt 32 x y (omega (arith, hx.below)) (omega (arith, hy.below)) in
    grind (arith, common_steps, xor-bits)
forward-sound Lsh a b x y fa fb hx hy =
    let l = left-admits a x (y % 32) hx in let above = hy.above in let below = hy.below in
    grind (arith, nat_tests, bit_at-zero, bit_at-lt)
forward-sound Rsh a b x y fa fb hx hy =
    let r = right-admits a x (y % 32) (omega arith) fa hx in let above = hy.above in let below = hy.below in
    let d = div-le_self x (2 ^ (y % 32)) in grind (arith, nat_tests, bit_at-zero, bit_at-lt)
forward-sound op a b x y fa fb hx hy = grind (arith, nat_tests, bit_at-zero, bit_at-lt)

pub negate-sound : (a : Known) (x : ℕ) → a.high < 2 ^ 32 → Admits a x → Admits (forward_negated a) (negation_of x)
unfolding forward_negated
negate-sound a x fa hx = grind (arith, nat_tests, bit_at-zero, bit_at-lt)

-- a number is admitted exactly where what it gives by itself loses nothing
pub number-narrows : (k : Known) (n : ℕ) → n < 2 ^ 32 → k.zeros < 2 ^ 32 → Admits k n
    → IsNarrower k (known_of n n (4294967295 - n) n)
number-narrows k n f fz h = record {
  low = h.above;
  high = h.below;
  zeros = λ i. elim (cases_lt i 32) [
    | inl l ↦ omega (arith, h.bits.zero i, bit_at_not w32 n i f l)
    | inr l ↦ omega (arith, bit_at_above k.zeros 32 i fz l)
  ];
  ones = h.bits.one;
}

pub narrows-number : (k : Known) (n : ℕ) → n < 2 ^ 32 → IsNarrower k (known_of n n (4294967295 - n) n) → Admits k n
narrows-number k n f h = grind (arith, common_steps, bit_at-complement)

-- reduction keeps each number
pub reduction-sound : (old new : Known) (n : ℕ) → n < 2 ^ 32 → old.zeros < 2 ^ 32 → IsWidest IsClosed old new
    → Admits old n → Admits new n
reduction-sound old new n f fz w h = narrows-number new n f
    (w.widest _ (closed-number n f) (number-narrows old n f fz h))

pub reduction-none : (old : Known) (n : ℕ) → n < 2 ^ 32 → old.zeros < 2 ^ 32 → HasNone IsClosed old → ¬ Admits old n
reduction-none old n f fz w h = w _ (closed-number n f) (number-narrows old n f fz h)

number-tight : (xs : ℕ) (n : ℕ) → n < 2 ^ 32 → ¬ Has xs n → IsClosedWord xs (known_of n n (4294967295 - n) n)
number-tight xs n f kept = grind (arith, common_steps, constant-admits, closed-number)

-- the knowledge that a number gives is closed, where it isn't excluded
pub number-closed : (ex : List ℕ) (i n : ℕ) → n < 2 ^ 32 → (i < 16 → ¬ Has (numbers_at ex i) n)
    → IsClosedAt ex i (known_of n n (4294967295 - n) n)
number-closed ex i n f kept = grind (arith, common_steps, closed-number, number-tight)

pub word-sound : (xs : ℕ) (old new : Known) (n : ℕ) → n < 2 ^ 32 → old.zeros < 2 ^ 32
    → IsWidest (IsClosedWord xs) old new → Leaves old xs n → Leaves new xs n
word-sound xs old new n f fz w h = record {
  admitted = narrows-number new n f (w.widest _ (number-tight xs n f h.kept) (number-narrows old n f fz h.admitted));
  kept = h.kept;
}

pub word-none-sound : (xs : ℕ) (old : Known) (n : ℕ) → n < 2 ^ 32 → old.zeros < 2 ^ 32
    → HasNone (IsClosedWord xs) old → ¬ Leaves old xs n
word-none-sound xs old n f fz w h = w _ (number-tight xs n f h.kept) (number-narrows old n f fz h.admitted)

-- what is known of a word is its four numbers
pub four-same : (l h z o m i y p : ℕ) → l ≡ m → h ≡ i → z ≡ y → o ≡ p → known_of l h z o ≡ known_of m i y p
four-same l h z o m i y p a b c d = cc

-- there is one reduction at most
pub same-known : (a b : Known) → IsNarrower a b → IsNarrower b a → a ≡ b
same-known a b h k = grind (arith, common_steps, bits-le, four-same)

pub one-reduction : (kind : Known → Type 0) (old a b : Known) → IsWidest kind old a → IsWidest kind old b → a ≡ b
one-reduction kind old a b h k = same-known a b (h.widest b k.is k.narrower) (k.widest a h.is h.narrower)

-- the reduction of what is reduced is itself
pub again : (kind : Known → Type 0) (k : Known) → kind k → IsWidest kind k k
again kind k h = record { is = h; narrower = IsNarrower-refl k; widest = λ s t n. n }
