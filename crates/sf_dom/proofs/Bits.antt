use Rattle.sf_dom.proofs.Common.{common_steps, ◌≡◌, ℕ, ◌<◌, ◌≤◌, ◌^◌, ◌-◌, ◌+◌, ◌*◌, ◌/◌, ◌%◌, arith, sym, ap, ◌∙◌, inl, inr, cases_lt, bit_and, bit_or, bit_xor, bit_at, shr_split, shr-shr, and_le_l, or_disjoint, or_lt, pow_pos, xor_shr, le-div, bit_at_and, bit_at_or, bit_at_xor, bit_at-lt, same_from_bits, bit_at_above, bit_at_cat_low, bit_at_cat_high, bit_at-zero, bit_at_mask_below, bit_at_ones_above, div-eq_of_lt, div-mul-le_self, HasBits, AreBitsOf, bit_at-complement, min, max}

-- one bit of a XOR, by the numbers 0 and 1
xor_zero : (a b za oa zb ob : ℕ) → a < 2 → b < 2 → za + a ≤ 1 → oa ≤ a → zb + b ≤ 1 → ob ≤ b
    → max (min za zb) (min oa ob) + (a + b) % 2 ≤ 1
xor_zero a b za oa zb ob la lb h k l m = omega arith

xor_one : (a b za oa zb ob : ℕ) → a < 2 → b < 2 → za + a ≤ 1 → oa ≤ a → zb + b ≤ 1 → ob ≤ b
    → max (min za ob) (min oa zb) ≤ (a + b) % 2
xor_one a b za oa zb ob la lb h k l m = omega arith

back_xor_zero : (x c k z o : ℕ) → x < 2 → c < 2 → k + c ≤ 1 → z + (x + c) % 2 ≤ 1 → o ≤ (x + c) % 2
    → max (min z k) (min o c) + x ≤ 1
back_xor_zero x c k z o lx lc l h m = omega arith

back_xor_one : (x c k z o : ℕ) → x < 2 → c < 2 → k + c ≤ 1 → z + (x + c) % 2 ≤ 1 → o ≤ (x + c) % 2
    → max (min o k) (min z c) ≤ x
back_xor_one x c k z o lx lc l h m = omega arith

-- both operands' known bits
pub and-bits : (a b za oa zb ob : ℕ) → HasBits a za oa → HasBits b zb ob
    → HasBits (bit_and a b) (bit_or za zb) (bit_and oa ob)
and-bits a b za oa zb ob ha hb = grind (arith, common_steps, bit_at_and, bit_at_or)

pub or-bits : (a b za oa zb ob : ℕ) → HasBits a za oa → HasBits b zb ob
    → HasBits (bit_or a b) (bit_and za zb) (bit_or oa ob)
or-bits a b za oa zb ob ha hb = grind (arith, common_steps, bit_at_and, bit_at_or, bit_at-lt)

pub xor-bits : (a b za oa zb ob : ℕ) → HasBits a za oa → HasBits b zb ob
    → HasBits (bit_xor a b) (bit_or (bit_and za zb) (bit_and oa ob)) (bit_or (bit_and za ob) (bit_and oa zb))
xor-bits a b za oa zb ob ha hb = search (arith, bit_at_xor, bit_at_or, bit_at_and, xor_zero, bit_at-lt, xor_one)

-- known bits of both kinds of knowledge
pub join-bits : (n z o y p : ℕ) → HasBits n z o → HasBits n y p → HasBits n (bit_or z y) (bit_or o p)
join-bits n z o y p h k = grind (arith, common_steps, bit_at_or)

-- back through an operation with a constant
pub backward-and : (x c z o : ℕ) → HasBits (bit_and x c) z o → HasBits x (bit_and z c) o
backward-and x c z o h = grind (arith, common_steps, bit_at_and, bit_at-lt)

pub backward-or : (x c z o : ℕ) → c < 2 ^ 32 → HasBits (bit_or x c) z o → HasBits x z (bit_and o (4294967295 - c))
backward-or x c z o l h = grind (arith, common_steps, bit_at_or, bit_at_and, bit_at-complement)

pub backward-xor : (x c z o : ℕ) → c < 2 ^ 32 → HasBits (bit_xor x c) z o
    → HasBits x (bit_or (bit_and z (4294967295 - c)) (bit_and o c)) (bit_or (bit_and o (4294967295 - c)) (bit_and z c))
backward-xor x c z o l h =
    search (arith, bit_at_xor, bit_at_or, bit_at_and, back_xor_zero, bit_at-lt, bit_at-complement, back_xor_one)

-- the known ones are at most the number
pub ones-le : (n z o : ℕ) → HasBits n z o → o ≤ n
ones-le n z o h =
    let same : bit_and n o ≡ o = same_from_bits (bit_and n o) o (λ i. bit_at_and n o i ∙ omega (arith, h.one i)) in
    rw same at (and_le_l n o)

-- bits of a number are no greater
pub bits-le : (a b : ℕ) → AreBitsOf a b → a ≤ b
bits-le a b h = ones-le b 0 a (record { zero = λ i. omega (arith, bit_at-zero i, bit_at-lt b i); one = h })

-- a number's bits are among those of an OR with it
pub bits-of-or : (a b : ℕ) → AreBitsOf a (bit_or a b)
bits-of-or a b i = rw (bit_at_or a b i) (omega arith)

pub bits-of-or_right : (a b : ℕ) → AreBitsOf b (bit_or a b)
bits-of-or_right a b i = rw (bit_at_or a b i) (omega arith)

-- bits that are there add nothing
pub or-same : (a b : ℕ) → AreBitsOf b a → bit_or a b ≡ a
or-same a b h = same_from_bits (bit_or a b) a (λ i. bit_at_or a b i ∙ omega (arith, h i))

-- none of the known zeros is a bit of the number
pub no-zeros : (n z o : ℕ) → HasBits n z o → bit_and n z ≡ 0
no-zeros n z o h = same_from_bits (bit_and n z) 0
    (λ i. bit_at_and n z i ∙ omega (arith, h.zero i) ∙ sym (bit_at-zero i))

-- a number leaves room for its known zeros
pub zeros-le : (n z o : ℕ) → n < 2 ^ 32 → z < 2 ^ 32 → HasBits n z o → n ≤ 4294967295 - z
zeros-le n z o ln lz h = omega (arith, or_disjoint n z (no-zeros n z o h), or_lt 32 n z ln lz)

-- a bit of a remainder, and of a shifted number
pub bit_at-mod : (n k i : ℕ) → i < k → bit_at (n % 2 ^ k) i ≡ bit_at n i
bit_at-mod n k i h = sym (bit_at_cat_low (n / 2 ^ k) k (n % 2 ^ k) i h) ∙ ap (λ m. bit_at m i) (shr_split n k)

pub bit_at-shl_low : (a s i : ℕ) → i < s → bit_at (a * 2 ^ s) i ≡ 0
bit_at-shl_low a s i h = let e : a * 2 ^ s + 0 ≡ a * 2 ^ s = omega arith in
    rw e at (bit_at_cat_low a s 0 i h) ∙ bit_at-zero i

pub bit_at-shl_high : (a s i : ℕ) → s ≤ i → bit_at (a * 2 ^ s) i ≡ bit_at a (i - s)
bit_at-shl_high a s i h = let e : a * 2 ^ s + 0 ≡ a * 2 ^ s = omega arith in
    rw e at (bit_at_cat_high a s 0 i (pow_pos s) h)

pub bit_at-shr : (a s i : ℕ) → bit_at (a / 2 ^ s) i ≡ bit_at a (s + i)
bit_at-shr a s i = ap (λ m. m % 2) (shr-shr a s i)

-- moved left by s, modulo 2 ^ 32
pub shl-bits : (a za oa s : ℕ) → HasBits a za oa
    → HasBits (a * 2 ^ s % 2 ^ 32) (bit_or (za * 2 ^ s % 2 ^ 32) (2 ^ s - 1)) (oa * 2 ^ s % 2 ^ 32)
shl-bits a za oa s h =
    let low : (n i : ℕ) → i < 32 → i < s → bit_at (n * 2 ^ s % 2 ^ 32) i ≡ 0 =
    λ n i l m. bit_at-mod (n * 2 ^ s) 32 i l ∙ bit_at-shl_low n s i m in
    let high : (n i : ℕ) → i < 32 → s ≤ i → bit_at (n * 2 ^ s % 2 ^ 32) i ≡ bit_at n (i - s) =
    λ n i l m. bit_at-mod (n * 2 ^ s) 32 i l ∙ bit_at-shl_high n s i m in
    let past : (n i : ℕ) → 32 ≤ i → bit_at (n * 2 ^ s % 2 ^ 32) i ≡ 0 =
    λ n i l. bit_at_above (n * 2 ^ s % 2 ^ 32) 32 i (omega arith) l in
    record {
      zero = search (arith, cases_lt, bit_at-lt, bit_at_or, bit_at_ones_above);
      one = search (arith, cases_lt);
    }

-- moved right by s
pub shr-bits : (a za oa s : ℕ) → s < 32 → a < 2 ^ 32 → HasBits a za oa
    → HasBits (a / 2 ^ s) (bit_or (za / 2 ^ s) (2 ^ 32 - 2 ^ (32 - s))) (oa / 2 ^ s)
shr-bits a za oa s ls la h = record {
  zero = λ i. rw (bit_at-shr a s i, bit_at_or (za / 2 ^ s) (2 ^ 32 - 2 ^ (32 - s)) i, bit_at-shr za s i)
      (elim (cases_lt i (32 - s)) [
        | inl l ↦ omega (arith, bit_at_mask_below (32 - s) 32 i l, h.zero (s + i))
        | inr l ↦
            let z = bit_at-lt za (s + i) in let m = bit_at-lt (2 ^ 32 - 2 ^ (32 - s)) i in
            omega (arith, bit_at_above a 32 (s + i) la (omega arith))
      ]);
  one = λ i. rw (bit_at-shr a s i, bit_at-shr oa s i) (h.one (s + i));
}

-- two numbers that differ only below bit k
pub same_quotient : (a b k : ℕ) → bit_xor a b < 2 ^ k → a / 2 ^ k ≡ b / 2 ^ k
same_quotient a b k h =
    let none : bit_xor (a / 2 ^ k) (b / 2 ^ k) ≡ 0 = sym (xor_shr a b k) ∙ div-eq_of_lt h in
    same_from_bits (a / 2 ^ k) (b / 2 ^ k) (λ i. equal_bits _ _ (bit_at-lt _ i) (bit_at-lt _ i)
    (sym (bit_at_xor (a / 2 ^ k) (b / 2 ^ k) i) ∙ ap (λ m. bit_at m i) none ∙ bit_at-zero i))
  where
    equal_bits : (x y : ℕ) → x < 2 → y < 2 → (x + y) % 2 ≡ 0 → x ≡ y
    equal_bits x y l m e = omega arith

pub div_mono : (a b k : ℕ) → a ≤ b → a / 2 ^ k ≤ b / 2 ^ k
div_mono a b k h = le-div (a / 2 ^ k) b (2 ^ k) (pow_pos k) (omega (arith, div-mul-le_self a (2 ^ k)))
