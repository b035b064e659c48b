-- The bits of questions.
use Rattle.sf_ask.proofs.Common.{common_steps, ◌≡◌, ℕ, ◌*◌, ◌/◌, ◌%◌, ◌^◌, ◌<◌, min, bit_and, bit_or, true, false, List, set, length, w64, sym, ap, ◌∙◌, subst, arith, bit_at, nat_tests, bit_at-zero, bit_at_and, bit_at_set_same, bit_at_set_other, get_or-set_same, get_or-set_other, dite, ℕ_discrete, bit_of, has_bit}
use Rattle.std.proofs.Common.{◌==◌, slice_index, if◌then◌else◌}

-- the bit of q is set in four words, and no other is changed
pub bits-more : (words : List ℕ) (p q : ℕ) → length words ≡ 4 → q < 256
    → bit_of (set words (q / 64) (bit_or (slice_index words (q / 64)) (1 * 2 ^ (q % 64) % 2 ^ 64))) p
    ≡ (if p == q then 1 else bit_of words p)
bits-more words p q long low =
    let w : ℕ = q / 64 in let m : ℕ = bit_or (slice_index words w) (1 * 2 ^ (q % 64) % 2 ^ 64) in
    let here : slice_index (set words w m) w ≡ m = get_or-set_same words w m 0 (omega arith) in
    let one : bit_of (set words w m) q ≡ 1 = ap (λ x. bit_at x (q % 64)) here
    ∙ bit_at_set_same w64 (slice_index words w) (q % 64) (omega arith) in
    dite (ℕ_discrete p q)
    (λ e. (let t : (if p == q then 1 else bit_of words p) ≡ 1 = grind (arith, nat_tests) in
    subst (λ x. bit_of (set words w m) x ≡ 1) (sym e) one ∙ sym t))
    (λ ne. (let t : (if p == q then 1 else bit_of words p) ≡ bit_of words p = grind (arith, nat_tests) in
    dite (ℕ_discrete (p / 64) w)
    (λ same. ap (λ x. bit_at (slice_index (set words w m) x) (p % 64)) same ∙ ap (λ x. bit_at x (p % 64)) here
    ∙ bit_at_set_other w64 (slice_index words w) (q % 64) (omega arith) (p % 64) (λ e. ne (omega arith))
    ∙ ap (λ x. bit_at (slice_index words x) (p % 64)) (sym same) ∙ sym t)
    (λ other. ap (λ x. bit_at x (p % 64)) (get_or-set_other words w (p / 64) m 0 other) ∙ sym t)))

-- two words without a common bit: where one has a bit, the other hasn't
apart-at : (a b i : ℕ) → bit_and a b ≡ 0 → (bit_at b i == 1) ≡ true → (bit_at a i == 1) ≡ false
apart-at a b i none set =
    let both : min (bit_at a i) (bit_at b i) ≡ 0 = sym (bit_at_and a b i) ∙ ap (λ x. bit_at x i) none ∙ bit_at-zero i in
    grind (arith, nat_tests)

pub apart : (first second : List ℕ) (q : ℕ)
    → bit_and (slice_index first (q / 64)) (slice_index second (q / 64)) ≡ 0 → has_bit second q ≡ true
    → has_bit first q ≡ false
apart first second q none set = grind (arith, common_steps, apart-at)
