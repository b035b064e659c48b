-- Inputs before others, by their bits and by their variables.
use Rattle.sf_relations.proofs.Common.{below_more, input-back, input-is, input-word, input_by-same, number_by-bit, number_by-small, common_steps, ◌≡◌, ◌⊎◌, ℕ, zero, suc, ◌+◌, ◌-◌, ◌*◌, ◌/◌, ◌%◌, ◌^◌, ◌<◌, ◌≤◌, ◌==◌, Bool, true, false, refl, sym, ap, ◌∙◌, inl, inr, arith, nat_lt, slice_index, if◌then◌else◌, agree_below_at, cases_lt, eqb-true, lt-ltb, le-ltb, ltb-true, pow-le-pow_right, pow-suc, Input, IsInput, Bits, IsEarlierInput, number_by, places_of_words, words_in_order, input_by, input_bits, bit_in_order, ComesBefore}

-- ---- a word by its variables

-- one more bit
number-more : (first n : ℕ) (bits : Bits) → number_by first 1 (n + 1) bits
    ≡ (if bits (first + 1 * (31 - n)) then 1 else 0) * 2 ^ n + number_by first 1 n bits
unfolding number_by
number-more first n bits = grind (arith, common_steps)

pub number-none : (first : ℕ) (bits : Bits) → 0 ≡ number_by first 1 0 bits
unfolding number_by
number-none first bits = refl

pub half-small : (n : ℕ) → n < 32 → 2 ^ n * 2 ≤ 2 ^ 32
half-small n l = grind (arith, common_steps, pow-le-pow_right, pow-suc)

-- a number with one more bit, as it is added
pub number-step : (first n : ℕ) (bits : Bits) (b : Bool) (m k : ℕ) → n < 32 → bits (first + (31 - n)) ≡ b
    → m ≡ number_by first 1 n bits → k ≡ (if b then m + 1 * 2 ^ n % 2 ^ 32 else m)
    → k ≡ number_by first 1 (n + 1) bits
number-step first n bits b m k l at so_far e = grind (arith, common_steps, number_by-small, number-more, half-small)

-- the lowest n bits are the same
abbrev AgreeBelow : ℕ → ℕ → Bits → Bits → Type 0
AgreeBelow first n a b = (i : ℕ) → i < n → a (first + 1 * (31 - i)) ≡ b (first + 1 * (31 - i))

-- variables of one number agree
agree : (first n : ℕ) (a b : Bits) → number_by first 1 n a ≡ number_by first 1 n b → AgreeBelow first n a b
agree first n a b e i l = grind (arith, e, number_by-bit first 1 n a i l, number_by-bit first 1 n b i l)

-- ---- words of an input

place-of-word : (place : ℕ) → place < 16 → slice_index places_of_words (slice_index words_in_order place) ≡ place
place-of-word place l = eqb-true (slice_index places_of_words (slice_index words_in_order place)) place
    (agree_below_at (λ n. slice_index places_of_words (slice_index words_in_order n) == n) (λ n. true) 16 place refl l)

word-there : (place : ℕ) → place < 16 → slice_index words_in_order place < 16
word-there place l = ltb-true (slice_index words_in_order place) 16
    (agree_below_at (λ n. nat_lt (slice_index words_in_order n) 16) (λ n. true) 16 place refl l)

-- the word at a place of the order has the next 32 variables
word-number : (bits : Bits) (place : ℕ) → place < 16
    → slice_index (input_by bits).words (slice_index words_in_order place) ≡ number_by (576 + 32 * place) 1 32 bits
word-number bits place l =
    input-word bits (slice_index words_in_order place) (word-there place l)
    ∙ ap (λ (p : ℕ). number_by (576 + 32 * p) 1 32 bits) (place-of-word place l)

-- the bits of an input that variables make are these variables
made-bits : (bits : Bits) (p : ℕ) → p < 512 → bit_in_order (input_by bits) p ≡ bits (576 + p)
made-bits bits p l =
    let others : Bits = input_bits (input_by bits) in
    let place : ℕ = p / 32 in
    let i : ℕ = 31 - p % 32 in
    let at : 576 + 32 * place + 1 * (31 - i) ≡ 576 + p = omega arith in
    let word : number_by (576 + 32 * place) 1 32 others ≡ number_by (576 + 32 * place) 1 32 bits
    = sym (word-number others place (omega arith))
    ∙ ap (λ (d : Input). slice_index d.words (slice_index words_in_order place))
    (input-back (input_by bits) (input-is bits))
    ∙ word-number bits place (omega arith) in
    rw at at (agree (576 + 32 * place) 32 others bits word i (omega arith))

-- ---- inputs before others

-- the variables of an input, with other variables in front
abbrev behind : Bits → Input → Bits
behind front d v = if nat_lt v 576 then front v else input_bits d v

behind-bit : (front : Bits) (d : Input) (p : ℕ) → behind front d (576 + p) ≡ bit_in_order d p
behind-bit front d p = grind (arith, common_steps, le-ltb)

-- variables of an input that come before others
pub record AreEarlierVariables (d : Input) (others : Bits) : Type 0 where
  pub bits : Bits
  pub made : input_by bits ≡ d
  pub earlier : IsEarlierInput bits others

-- an input that comes before that of some variables has variables that come before them
pub earlier-variables : (others : Bits) (d : Input) → IsInput d → ComesBefore d (input_by others)
    → AreEarlierVariables d others
earlier-variables others d h before = record {
  bits = behind others d;
  made = input_by-same (behind others d) (input_bits d) (λ p l. behind-bit others d p) ∙ input-back d h;
  earlier = (
    576 + before.place,
    behind-bit others d before.place ∙ before.lower,
    sym (made-bits others before.place before.within) ∙ before.higher,
    λ v l. elim (cases_lt v 576) [
      | inl low ↦ rw (lt-ltb v 576 low) refl
      | inr high ↦
          let p : ℕ = v - 576 in
          let at : 576 + p ≡ v = omega arith in
          rw at at (behind-bit others d p ∙ before.same p (omega arith)
          ∙ made-bits others p (omega (arith, before.within)))
    ],
  );
}

-- of two inputs one comes before the other, unless their first n bits are the same
pub first-difference : (a b : Input) (n : ℕ) → n ≤ 512
    → ((p : ℕ) → p < n → bit_in_order a p ≡ bit_in_order b p) ⊎ (ComesBefore a b ⊎ ComesBefore b a)
first-difference a b zero l = inl (λ p q. absurd (omega arith))
first-difference a b (suc n) l = elim (first-difference a b n (omega arith)) [
  | inr found ↦ inr found
  | inl same ↦ here (bit_in_order a n) (bit_in_order b n) refl refl same
]
  where
    here : (x y : Bool) → bit_in_order a n ≡ x → bit_in_order b n ≡ y
        → ((p : ℕ) → p < n → bit_in_order a p ≡ bit_in_order b p)
        → ((p : ℕ) → p < suc n → bit_in_order a p ≡ bit_in_order b p) ⊎ (ComesBefore a b ⊎ ComesBefore b a)
    here true true ea eb same = inl (λ p q. below_more _ _ same (ea ∙ sym eb) p (omega arith))
    here false false ea eb same = inl (λ p q. below_more _ _ same (ea ∙ sym eb) p (omega arith))
    here false true ea eb same =
        inr (inl (record { place = n; within = omega arith; lower = ea; higher = eb; same = same }))
    here true false ea eb same =
        let back = λ (p : ℕ) (q : p < n). sym (same p q) in
        inr (inr (record { place = n; within = omega arith; lower = eb; higher = ea; same = back }))
