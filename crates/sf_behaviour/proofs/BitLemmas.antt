-- Operations and tests with one more bit, and what the loops over the bits of words keep. Trees ts are those at first,
-- us those so far, and vs those with one more bit.
use Rattle.sf_behaviour.proofs.Common.{◌≡◌, ℕ, zero, suc, ◌+◌, ◌*◌, ◌%◌, ◌<◌, ◌^◌, ◌==◌, refl, sym, ap, ◌∙◌, arith, if◌then◌else◌, bit_at, nat_tests, pow_pos, pow-add, passes, Test, not, bit_and, and_block, and_le_l, mod-pow-add, AnyBit, tested_bits, ◌-◌, ◌/◌, List, length, ap₂, bit_at-lt, Tree, Leaf, Fork, Bits, value, tree_at, KeepsTrees, chosen_of, IsTruthOf, or_lt, xor_lt, and_shr, or_shr, xor_shr, and_mod, or_mod, xor_mod, mod_below, combined, IsBitwise, Bitwise, And, Or, Xor, Choose, if-small}
use Rattle.sf_behaviour.proofs.words.WordLemmas.{value-kept}

pub more-small : (n v w : ℕ) → v < 2 → w < 2 ^ n → v * 2 ^ n + w < 2 ^ (n + 1)
more-small n v w lv lw = grind (arith, lw, pow-add 2 n 1)

-- ---- a number by its bits

pub low-all : (n a : ℕ) → n ≡ 32 → a < 2 ^ 32 → a % 2 ^ n ≡ a
low-all n a e l = rw e (omega arith)

pub low-more : (a n : ℕ) → bit_at a n * 2 ^ n + a % 2 ^ n ≡ a % 2 ^ (n + 1)
low-more a n = grind (arith, mod-pow-add a 1 n)

pub bit-if : (n : ℕ) → n < 2 → (if n == 1 then 1 else 0) ≡ n
bit-if n l = grind (arith, nat_tests)

-- ---- tests

-- what a test says, as a number
abbrev pub truth_of : Test → ℕ → ℕ → ℕ
truth_of test a b = if passes test a b then 1 else 0

-- some bit is set among n bits or in one more
any-one : (n m c : ℕ) → c < 2
    → chosen_of c c (if not (m == 0) then 1 else 0) ≡ (if not (c * 2 ^ n + m == 0) then 1 else 0)
any-one n m c lc = grind (arith, nat_tests, pow_pos n)

bit-tested : (test : Test) (n a b x y : ℕ) → a < 2 ^ n → b < 2 ^ n → x < 2 → y < 2
    → tested_bits test x y (truth_of test a b) ≡ truth_of test (x * 2 ^ n + a) (y * 2 ^ n + b)
bit-tested AnyBit n a b x y la lb lx ly =
    any-one n (bit_and a b) (bit_and x y) (omega (arith, and_le_l x y))
    ∙ ap (λ (k : ℕ). if not (k == 0) then 1 else 0) (sym (and_block n x y a b la lb))
bit-tested test n a b zero zero la lb lx ly = grind (arith, nat_tests)
bit-tested test n a b zero (suc zero) la lb lx ly = grind (arith, nat_tests)
bit-tested test n a b (suc zero) zero la lb lx ly = grind (arith, nat_tests)
bit-tested test n a b (suc zero) (suc zero) la lb lx ly = grind (arith, nat_tests)
bit-tested test n a b x y la lb lx ly = absurd (omega arith)

-- what a test says of the lowest bits of two words, with one more
pub test-more : (test : Test) (n a b : ℕ)
    → tested_bits test (bit_at a n) (bit_at b n) (truth_of test (a % 2 ^ n) (b % 2 ^ n))
    ≡ truth_of test (a % 2 ^ (n + 1)) (b % 2 ^ (n + 1))
test-more test n a b =
    bit-tested test n (a % 2 ^ n) (b % 2 ^ n) (bit_at a n) (bit_at b n) (mod_below a (2 ^ n) (pow_pos n))
    (mod_below b (2 ^ n) (pow_pos n)) (bit_at-lt a n) (bit_at-lt b n)
    ∙ ap₂ (truth_of test) (low-more a n) (low-more b n)

-- ---- operations that treat each bit by itself

chosen-bit : (t a b n : ℕ) → bit_at (chosen_of t a b) n ≡ chosen_of t (bit_at a n) (bit_at b n)
chosen-bit t a b n = grind arith

chosen-small : (t a b m : ℕ) → a < m → b < m → chosen_of t a b < m
chosen-small t a b m la lb = grind arith

pub combined-bit : (ts : List Tree) (bits : Bits) (o : Bitwise) (a b n : ℕ)
    → bit_at (combined ts bits o a b) n ≡ combined ts bits o (bit_at a n) (bit_at b n)
combined-bit ts bits And a b n = ap (λ (m : ℕ). m % 2) (and_shr a b n) ∙ and_mod (a / 2 ^ n) (b / 2 ^ n) 1
combined-bit ts bits Or a b n = ap (λ (m : ℕ). m % 2) (or_shr a b n) ∙ or_mod (a / 2 ^ n) (b / 2 ^ n) 1
combined-bit ts bits Xor a b n = ap (λ (m : ℕ). m % 2) (xor_shr a b n) ∙ xor_mod (a / 2 ^ n) (b / 2 ^ n) 1
combined-bit ts bits (Choose test) a b n = chosen-bit (value (tree_at ts test) bits) a b n

pub combined-small : (ts : List Tree) (bits : Bits) (o : Bitwise) (a b : ℕ) → a < 2 ^ 32 → b < 2 ^ 32
    → combined ts bits o a b < 2 ^ 32
combined-small ts bits And a b la lb = omega (arith, and_le_l a b)
combined-small ts bits Or a b la lb = or_lt 32 a b la lb
combined-small ts bits Xor a b la lb = xor_lt 32 a b la lb
combined-small ts bits (Choose test) a b la lb = chosen-small (value (tree_at ts test) bits) a b (2 ^ 32) la lb

pub combined-kept : (ts us : List Tree) (bits : Bits) (o : Bitwise) (a b : ℕ) → KeepsTrees ts us → IsBitwise ts o
    → combined us bits o a b ≡ combined ts bits o a b
combined-kept ts us bits (Choose test) a b k h = ap (λ (t : ℕ). chosen_of t a b) (value-kept bits k h)
combined-kept ts us bits o a b k h = refl

-- ---- differences

-- a difference of n bits, with one more bit
pub less-step : (n a b c d z e : ℕ) {x y : ℕ} → x ≡ bit_at a n → y ≡ bit_at b n → z + y + c ≡ x + 2 * e
    → d + b % 2 ^ n ≡ a % 2 ^ n + c * 2 ^ n → z * 2 ^ n + d + b % 2 ^ (n + 1) ≡ a % 2 ^ (n + 1) + e * 2 ^ (n + 1)
less-step n a b c d z e {x} {y} ex ey high low =
    let scaled : (z + y + c) * 2 ^ n ≡ (x + 2 * e) * 2 ^ n = ap (λ (m : ℕ). m * 2 ^ n) high in
    let last : e * 2 ^ (n + 1) ≡ e * (2 ^ n * 2) = ap (λ (m : ℕ). e * m) (pow-add 2 n 1) in
    let more_a : x * 2 ^ n + a % 2 ^ n ≡ a % 2 ^ (n + 1) = rw ex (low-more a n) in
    let more_b : y * 2 ^ n + b % 2 ^ n ≡ b % 2 ^ (n + 1) = rw ey (low-more b n) in
    omega (arith, low, scaled, last, more_a, more_b)

-- a difference of all bits
pub less-all : (n a b c d : ℕ) → n ≡ 32 → a < 2 ^ 32 → b < 2 ^ 32 → d < 2 ^ n
    → d + b % 2 ^ n ≡ a % 2 ^ n + c * 2 ^ n → d ≡ (a + (2 ^ 32 - b)) % 2 ^ 32
less-all n a b c d e la lb ld so_far = grind arith

-- ---- single bits

pub leaf-truth : (n : ℕ) {ts : List Tree} {id : ℕ} → id < length ts → tree_at ts id ≡ Leaf n → n < 2
    → IsTruthOf ts id (λ bits. n)
leaf-truth n l e small = record {
  truth = record { within = l; small = λ bits. rw e small };
  values = λ bits. rw e refl;
}

pub literal-truth : (ts : List Tree) (id v : ℕ) → id < length ts → tree_at ts id ≡ Fork v (Leaf 0) (Leaf 1)
    → IsTruthOf ts id (λ bits. if bits v then 1 else 0)
literal-truth ts id v l e = record {
  truth = record { within = l; small = λ bits. rw e (if-small (bits v)) };
  values = λ bits. rw e refl;
}
