-- Laws of the numbers that variables make, and of inputs by their variables.
use Rattle.std.proofs.Common.{◌≡◌, ℕ, zero, suc, ◌+◌, ◌-◌, ◌*◌, ◌^◌, ◌<◌, ◌==◌, Bool, true, List, length, refl, sym, ap, ap₂, ◌∙◌, inl, inr, arith}
use Rattle.std.specs.Prelude.{nat_lt, slice_index, if◌then◌else◌}
use Rattle.sf_behaviour.specs.Common.{bit_at, range_with_len, Input, IsInput, Bits}
use Rattle.std.proofs.Math.Nat.{pow-suc}
use Rattle.std.proofs.lemmas.Bool.{agree_below_at, cases_lt, eqb-true, ltb-true}
use Rattle.std.proofs.lemmas.Bool.Decides.{nat_tests}
use Rattle.std.proofs.lemmas.Grind.{same_number_lists}
use Rattle.std.proofs.lemmas.List.{get_or_past, length-map}
use Rattle.std.proofs.lemmas.List.FromFn.{get_or-map-range_with_len, length-range_with_len}
use Rattle.std.proofs.lemmas.Nat.Bits.{bit_at-lt, bit_at_cat_high, bit_at_cat_low, bit_at_lowest, same_from_bits_below}
use Rattle.sf_behaviour.specs.InputBits.{number_by, places_of_words, input_first, input_number, input_by, words_in_order, input_bits}

pub if-small : (b : Bool) → (if b then 1 else 0) < 2
if-small b = grind arith

-- the bit above n others
pub top-bit : (x n low : ℕ) → x < 2 → low < 2 ^ n → bit_at (x * 2 ^ n + low) n ≡ x
top-bit x n low lx ll = grind (arith, bit_at_cat_high x n low n ll, bit_at_lowest)

-- variables that agree make one number
pub number_by-same : (first distance n : ℕ) (a b : Bits)
    → ((i : ℕ) → i < n → a (first + distance * (31 - i)) ≡ b (first + distance * (31 - i)))
    → number_by first distance n a ≡ number_by first distance n b
unfolding number_by
number_by-same first distance zero a b same = refl
number_by-same first distance (suc n) a b same =
    grind (arith, same n (omega arith), number_by-same first distance n a b (λ i l. same i (omega arith)))

pub number_by-small : (first distance n : ℕ) (bits : Bits) → number_by first distance n bits < 2 ^ n
unfolding number_by
number_by-small first distance zero bits = omega arith
number_by-small first distance (suc n) bits =
    grind (arith, pow-suc 2 n, number_by-small first distance n bits)

-- a bit of the number is its variable
pub number_by-bit : (first distance n : ℕ) (bits : Bits) (i : ℕ) → i < n
    → bit_at (number_by first distance n bits) i ≡ (if bits (first + distance * (31 - i)) then 1 else 0)
unfolding number_by
number_by-bit first distance zero bits i l = absurd (omega arith)
number_by-bit first distance (suc n) bits i l =
    let x : ℕ = if bits (first + distance * (31 - n)) then 1 else 0 in
    let low : ℕ = number_by first distance n bits in
    let small = if-small (bits (first + distance * (31 - n))) in
    let top = top-bit x n low small (number_by-small first distance n bits) in
    let later = number_by-bit first distance n bits i in
    grind (arith, bit_at_cat_low x n low i, later, top)

-- the bits of a number make the number
pub number_by-is : (first distance m : ℕ) (bits : Bits) → m < 2 ^ 32
    → ((i : ℕ) → i < 32 → bits (first + distance * (31 - i)) ≡ (bit_at m i == 1)) → number_by first distance 32 bits ≡ m
number_by-is first distance m bits small is =
    same_from_bits_below 32 (number_by first distance 32 bits) m (number_by-small first distance 32 bits) small
    (λ i l. grind (arith, nat_tests, number_by-bit first distance 32 bits i l, is i l, bit_at-lt m i))

pub input-word : (bits : Bits) (w : ℕ) → w < 16 → slice_index (input_by bits).words w ≡ input_number bits w
input-word bits w l = get_or-map-range_with_len (input_number bits) 0 16 w w 0 l (omega arith)

-- some variables make an input
pub input-is : (bits : Bits) → IsInput (input_by bits)
input-is bits = record {
  sixteen = long;
  each = λ i. elim (cases_lt i 16) [
    | inl l ↦ rw (input-word bits i l) (number_by-small (input_first i) 1 32 bits)
    | inr g ↦ rw (get_or_past (input_by bits).words i 0 (omega (arith, g, long))) (omega arith)
  ];
}
  where
    long : length (input_by bits).words ≡ 16
    long = length-map (range_with_len 0 16) (input_number bits) ∙ length-range_with_len 0 16

place-there : (w : ℕ) → w < 16 → slice_index places_of_words w < 16
place-there w l = ltb-true (slice_index places_of_words w) 16
    (agree_below_at (λ n. nat_lt (slice_index places_of_words n) 16) (λ n. true) 16 w refl l)

-- variables that agree behind those of registers make one input
pub input_by-same : (a b : Bits) → ((p : ℕ) → p < 512 → a (576 + p) ≡ b (576 + p)) → input_by a ≡ input_by b
input_by-same a b same =
    ap (λ (ws : List ℕ). let d : Input = record { words = ws } in d)
    (same_number_lists (input_by a).words (input_by b).words ((input-is a).sixteen ∙ sym (input-is b).sixteen) (λ w l.
    let inside : w < 16 = omega (arith, (input-is a).sixteen, (input-is b).sixteen) in
    let p = λ (i : ℕ). 32 * slice_index places_of_words w + (31 - i) in
    input-word a w inside ∙ number_by-same (input_first w) 1 32 a b (λ i li.
    let at : input_first w + 1 * (31 - i) ≡ 576 + p i = omega arith in
    rw at (same (p i) (omega (arith, place-there w inside)))) ∙ sym (input-word b w inside)))

word-at-place : (w : ℕ) → w < 16 → slice_index words_in_order (slice_index places_of_words w) ≡ w
word-at-place w l = eqb-true _ w
    (agree_below_at (λ n. slice_index words_in_order (slice_index places_of_words n) == n) (λ n. true) 16 w refl l)

-- a variable of a word is that bit of the word
input-bit : (d : Input) (w i : ℕ) → w < 16 → i < 32
    → input_bits d (input_first w + 1 * (31 - i)) ≡ (bit_at (slice_index d.words w) i == 1)
input-bit d w i lw li =
    ap₂ (λ (m j : ℕ). bit_at (slice_index d.words (slice_index words_in_order m)) j == 1) (omega arith) (omega arith)
    ∙ ap (λ (m : ℕ). bit_at (slice_index d.words m) i == 1) (word-at-place w lw)

number-of-word : (d : Input) (w : ℕ) → IsInput d → w < 16 → input_number (input_bits d) w ≡ slice_index d.words w
number-of-word d w h l =
    number_by-is (input_first w) 1 (slice_index d.words w) (input_bits d) (h.each w) (λ i li. input-bit d w i l li)

-- the variables of an input are those of no other one
pub input-back : (d : Input) → IsInput d → input_by (input_bits d) ≡ d
input-back d h =
    ap (λ (ws : List ℕ). let e : Input = record { words = ws } in e)
    (same_number_lists (input_by (input_bits d)).words d.words
    ((input-is (input_bits d)).sixteen ∙ sym h.sixteen)
    (λ k l. input-word (input_bits d) k (omega arith) ∙ number-of-word d k h (omega arith)))
