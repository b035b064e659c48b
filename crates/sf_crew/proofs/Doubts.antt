-- The questions in doubt, and their bits.
use Rattle.sf_crew.proofs.Common.{common_steps, ◌≡◌, ◌≢◌, ℕ, ◌+◌, ◌*◌, ◌/◌, ◌%◌, ◌^◌, ◌<◌, ◌≤◌, ◌==◌, if◌then◌else◌, max, bit_or, List, [], ◌∷◌, ◌++◌, w64, ap, arith, bit_at, nat_tests, bit_at-lt, bit_at-zero, bit_at_set_same, bit_at_set_other, dite, ℕ_discrete, EnteredSheet, has, has_doubt}

pub has_same : (x : ℕ) (xs : List ℕ) → has x (x ∷ xs) ≡ max 1 (has x xs)
has_same x xs = let t : (if x == x then 1 else 0) ≡ 1 = grind (arith, nat_tests) in ap (λ n. max n (has x xs)) t

pub has_other : (x y : ℕ) (xs : List ℕ) → x ≢ y → has x (y ∷ xs) ≡ has x xs
has_other x y xs ne = grind (arith, common_steps, nat_tests)

pub has_most : (x : ℕ) (xs : List ℕ) → has x xs ≤ 1
has_most x [] = omega arith
has_most x (y ∷ ys) = grind (arith, nat_tests, has_most x ys)

pub has_doubt_most : (q : ℕ) (es : List EnteredSheet) → has_doubt q es ≤ 1
has_doubt_most q [] = omega arith
has_doubt_most q (e ∷ es) = let rest = has_doubt_most q es in let one = has_most q e.doubts in omega arith

pub has_doubt_append : (q : ℕ) (xs ys : List EnteredSheet) → has_doubt q (xs ++ ys)
    ≡ max (has_doubt q xs) (has_doubt q ys)
has_doubt_append q [] ys = omega arith
has_doubt_append q (x ∷ xs) ys = let rest = has_doubt_append q xs ys in omega arith

-- the bits below 64 have different masks
mask_apart : (b c : ℕ) → b < 64 → c < 64 → 1 * 2 ^ b % 2 ^ 64 ≡ 1 * 2 ^ c % 2 ^ 64 → b ≡ c
mask_apart b c b_low c_low same = dite (ℕ_discrete b c) (λ e. e) (λ ne. absurd (
    let set_b : bit_at (bit_or 0 (1 * 2 ^ b % 2 ^ 64)) b ≡ 1 = bit_at_set_same w64 0 b b_low in
    let set_c : bit_at (bit_or 0 (1 * 2 ^ c % 2 ^ 64)) b ≡ bit_at 0 b = bit_at_set_other w64 0 c c_low b ne in
    let none = bit_at-zero b in
    let e : bit_at (bit_or 0 (1 * 2 ^ b % 2 ^ 64)) b ≡ bit_at (bit_or 0 (1 * 2 ^ c % 2 ^ 64)) b =
    ap (λ m. bit_at (bit_or 0 m) b) same in
    omega arith))

-- the place of a word of doubts and a mask in it belong to only one question
pub question_is : (p q : ℕ) → p / 64 + 2 ≡ q / 64 + 2 → 1 * 2 ^ (p % 64) % 2 ^ 64 ≡ 1 * 2 ^ (q % 64) % 2 ^ 64 → p ≡ q
question_is p q word mask = grind (arith, common_steps, mask_apart)

-- the bit of q is 1 in its word after it was set there
pub bit_set : (word q : ℕ) → bit_at (bit_or word (1 * 2 ^ (q % 64) % 2 ^ 64)) (q % 64) ≡ 1
bit_set word q = bit_at_set_same w64 word (q % 64) (omega arith)

pub bit_kept : (word p q : ℕ) → p ≢ q → p / 64 ≡ q / 64 → bit_at (bit_or word (1 * 2 ^ (q % 64) % 2 ^ 64)) (p % 64)
    ≡ bit_at word (p % 64)
bit_kept word p q ne same = bit_at_set_other w64 word (q % 64) (omega arith) (p % 64) (λ e. ne (omega arith))

pub bit_most : (word b : ℕ) → bit_at word b ≤ 1
bit_most word b = let lt = bit_at-lt word b in omega arith
