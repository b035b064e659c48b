-- Quotients, bit by bit from the highest.
use Rattle.sf_behaviour.proofs.Common.{bit_at, div-add-mod', div-div-eq-div-mul, mod_below, mul-pos, pow_pos, ◌≡◌, ℕ, ◌+◌, ◌-◌, ◌*◌, ◌/◌, ◌%◌, ◌<◌, ◌≤◌, ◌==◌, ◌^◌, Bool, true, false, sym, ap, ◌∙◌, arith, if◌then◌else◌, leb-true, pow-add, chosen_of, nat_le, le-div_iff_mul-le, div-lt_iff_lt-mul, leb-false, div-mul-add, IsDigit, nat_tests}

-- ---- one bit

-- the divisor, moved to the bit, is q
digit-by : (t : Bool) (r q : ℕ) → (t ≡ true → q ≤ r) → (t ≡ false → r < q) → r < 2 ^ 32 → r < 2 * q
    → IsDigit r q (if t then 1 else 0) (chosen_of (if t then 1 else 0) ((r + (2 ^ 32 - q % 2 ^ 32)) % 2 ^ 32) r)
digit-by t r q fits above lr twice = grind arith

pub digit-of : (r b p f l : ℕ) → 0 < p → r < 2 ^ 32 → r < 2 * (b * p) → f ≡ (if nat_le b (r / p) then 1 else 0)
    → l ≡ chosen_of f ((r + (2 ^ 32 - (b * p) % 2 ^ 32)) % 2 ^ 32) r → IsDigit r (b * p) f l
digit-of r b p f l some lr twice ef el =
    rw (el, ef) (digit-by (nat_le b (r / p)) r (b * p) (λ e. (le-div_iff_mul-le some).0 (leb-true b (r / p) e))
    (λ e. (div-lt_iff_lt-mul some).0 (leb-false b (r / p) e)) lr twice)

-- ---- all bits

-- where a is d * 2 times t and r is left, of which d takes x
digit-next : (a d t r x l : ℕ) → t * (d * 2) + r ≡ a → IsDigit r d x l → (a / d ≡ 2 * t + x) × (l ≡ a % d)
digit-next a d t r x l all digit =
    let whole : (2 * t + x) * d + l ≡ a = omega (arith, digit.parts) in
    let over : a / d ≡ 2 * t + x = ap (λ (m : ℕ). m / d) (sym whole) ∙ div-mul-add (2 * t + x) d l digit.less in
    (over, omega (arith, whole, rw over at (div-add-mod' a d)))

-- one bit more of the quotient of a by b, and the rest of the lower bits; m is n + 1
pub digit-more : (n m a b : ℕ) {r x l : ℕ} → m ≡ n + 1 → 0 < b → x < 2 → r ≡ a % (b * 2 ^ m)
    → (r < 2 * (b * 2 ^ n) → IsDigit r (b * 2 ^ n) x l) → (x ≡ bit_at (a / b) n) × (l ≡ a % (b * 2 ^ n))
digit-more n m a b {r} {x} {l} e some two rest digit =
    let t : ℕ = a / (b * 2 ^ m) in
    let twice : b * 2 ^ m ≡ b * 2 ^ n * 2 = rw (e, pow-add 2 n 1) (omega arith) in
    let below : r < b * 2 ^ m = rw rest (mod_below a (b * 2 ^ m) (mul-pos some (pow_pos m))) in
    let all : t * (b * 2 ^ n * 2) + r ≡ a = rw (← twice, rest) (div-add-mod' a (b * 2 ^ m)) in
    let next = digit-next a (b * 2 ^ n) t r x l all (digit (omega (arith, below, twice))) in
    (sym (ap (λ (k : ℕ). k % 2) (div-div-eq-div-mul a b (2 ^ n) ∙ next.0) ∙ omega (arith, two)), next.1)

-- the quotient is 0 where the divisor is 0
pub quotient-made : (a b q t : ℕ) → t ≡ (if b == 0 then 1 else 0) → (0 < b → q ≡ a / b)
    → chosen_of t 0 q ≡ (if b == 0 then 0 else a / b)
quotient-made a b q t is_zero is = grind (arith, nat_tests)
