-- The ways through a word: each number is on one, which tells what comes behind it. So it is with all parts of a word.
use Rattle.sf_parts.proofs.Common.{nat_tests, ◌≡◌, ℕ, suc, ◌+◌, ◌-◌, ◌*◌, ◌/◌, ◌%◌, ◌^◌, ◌<◌, ◌≤◌, ◌==◌, Bool, false, List, [], ◌∷◌, ◌++◌, length, map, refl, sym, ◌∙◌, inl, inr, arith, lit<, ◌⊎◌, All, bit_and, bit_or, nat_le, if◌then◌else◌, bit_at, and_zero_r, cond-true, cond_both, eqb-true, eq-eqb, pow_below, and_le_r, or_lt, or_disjoint, bit_at-lt, bit_at_and, bit_at_or, bit_at-zero, bit_at-pow_same, bit_at-pow_other, and_pow, same_from_bits, All-nil, All-cons, All-append, Tree, Leaf, Fork, IsOrderedFrom, behind, test_count, mask_in, runs_in, PartData, form_has, span_part, joined_parts, with_bit, ways_from, parts_in}
use Rattle.sf_parts.proofs.word.WordLemmas.{behind-outside}
use Rattle.sf_parts.proofs.parts.PartLemmas.{LeadsTo, HasNumber, counted-append, holders, AreParts, runs-listed-right}

-- ---- one bit more

-- under a mask with a bit besides, a number without the bit is what it was, and one with it has the bit besides
bit-off : (n mask b : ℕ) → bit_at n b ≡ 0 → bit_and n (bit_or mask (2 ^ b)) ≡ bit_and n mask
bit-off n mask b off =
    same_from_bits _ _ (λ j. grind (arith, bit_at_and, bit_at_or, bit_at-lt, bit_at-pow_same, bit_at-pow_other))

bit-on : (n mask b : ℕ) → bit_at n b ≡ 1 → bit_and n (bit_or mask (2 ^ b)) ≡ bit_or (bit_and n mask) (2 ^ b)
bit-on n mask b on =
    same_from_bits _ _ (λ j. grind (arith, bit_at_and, bit_at_or, bit_at-lt, bit_at-pow_same, bit_at-pow_other))

-- numbers without a bit are equal where they are equal with it
both-with : (x y b : ℕ) → bit_at x b ≡ 0 → bit_at y b ≡ 0 → (bit_or x (2 ^ b) == bit_or y (2 ^ b)) ≡ (x == y)
both-with x y b e f = grind (arith, nat_tests, or_disjoint, and_pow)

-- a way has the numbers that under its mask are its number
has-way : (mask number n : ℕ) (t : Tree)
    → form_has (span_part mask number number t).form n ≡ (bit_and n mask == number)
has-way mask number n t = grind (arith, nat_tests)

-- ---- the bits that are tested from a variable on are not yet in a number

abbrev AreClear : ℕ → ℕ → ℕ → Type 0
AreClear word m x = (j : ℕ) → j < 32 → m ≤ 32 * word + (31 - j) → bit_at x j ≡ 0

clear-here : (word m v x : ℕ) → m ≤ v → v / 32 ≡ word → AreClear word m x → bit_at x (31 - v % 32) ≡ 0
clear-here word m v x le is clear = clear (31 - v % 32) (omega arith) (omega arith)

clear-below : (word m v x : ℕ) → m ≤ v → AreClear word m x → AreClear word (suc v) x
clear-below word m v x le clear = λ j l above. clear j l (omega arith)

clear-with : (word m v x : ℕ) → m ≤ v → v / 32 ≡ word → AreClear word m x → AreClear word (suc v) (with_bit x v)
clear-with word m v x le is clear = λ j l above.
    grind (arith, clear j l, bit_at_or, bit_at-pow_other (31 - v % 32) j)

-- ---- each number is on one way

-- A number that is on the beginning of a way is on one of the two ways that lead on from a test of a bit.
way-sides : (n mask number b : ℕ) → bit_at mask b ≡ 0 → bit_at number b ≡ 0
    → ((bit_at n b ≡ 0) × ((bit_and n (bit_or mask (2 ^ b)) == number) ≡ (bit_and n mask == number))
    × ((bit_and n (bit_or mask (2 ^ b)) == bit_or number (2 ^ b)) ≡ false))
    ⊎ ((bit_at n b ≡ 1) × ((bit_and n (bit_or mask (2 ^ b)) == number) ≡ false)
    × ((bit_and n (bit_or mask (2 ^ b)) == bit_or number (2 ^ b)) ≡ (bit_and n mask == number)))
way-sides n mask number b clear none =
    let under : bit_at (bit_and n mask) b ≡ 0 = omega (arith, bit_at_and n mask b, bit_at-lt n b) in
    let set = bit_at_or number (2 ^ b) b in
    let also = bit_at_or (bit_and n mask) (2 ^ b) b in
    let same = both-with (bit_and n mask) number b under none in
    grind (arith, nat_tests, bit_at-lt n b, bit-off n mask b, bit-on n mask b, bit_at-pow_same b, set, also, same)

way-alone : (mask number n : ℕ) (t : Tree)
    → holders n (span_part mask number number t ∷ []) ≡ (if bit_and n mask == number then 1 else 0)
way-alone mask number n t = grind (arith, nat_tests)

-- parts that do not have a number lead anywhere behind it
none-leads : (n : ℕ) (b : Tree) (ps : List PartData) → holders n ps ≡ 0 → All (LeadsTo b n) ps
none-leads n b [] e = All-nil (LeadsTo b n)
none-leads n b (p ∷ ps) e =
    All-cons (LeadsTo b n) p ps (λ has. grind arith) (none-leads n b ps (grind arith))

-- A number is on one of some ways if their beginning has it, else on none. Behind it comes what its way says.
way-right : (word mask number : ℕ) (t : Tree) (m n : ℕ) → IsOrderedFrom m t → AreClear word m mask
    → AreClear word m number
    → (holders n (ways_from word mask number t) ≡ (if bit_and n mask == number then 1 else 0))
    × All (LeadsTo (behind word t n) n) (ways_from word mask number t)
way-right word mask number (Leaf c) m n o clear none = (
  way-alone mask number n (Leaf c),
  All-cons (LeadsTo (Leaf c) n) (span_part mask number number (Leaf c)) [] (λ has. refl) (All-nil (LeadsTo (Leaf c) n)),
)
way-right word mask number (Fork v p q) m n o clear none =
    let t : Tree = Fork v p q in
    let lower : List PartData = ways_from word (with_bit mask v) number p in
    let higher : List PartData = ways_from word (with_bit mask v) (with_bit number v) q in
    cond_both (v / 32 == word) (lower ++ higher) (span_part mask number number t ∷ [])
    (λ ps. (holders n ps ≡ (if bit_and n mask == number then 1 else 0)) × All (LeadsTo (behind word t n) n) ps)
    (λ in_word.
    let is : v / 32 ≡ word = eqb-true (v / 32) word in_word in
    let masked : AreClear word (suc v) (with_bit mask v) = clear-with word m v mask o.0 is clear in
    let first = way-right word (with_bit mask v) number p (suc v) n o.1 masked (clear-below word m v number o.0 none) in
    let second = way-right word (with_bit mask v) (with_bit number v) q (suc v) n o.2 masked
    (clear-with word m v number o.0 is none) in
    let sum = counted-append (λ (r : PartData). form_has r.form n) lower higher in
    elim (way-sides n mask number (31 - v % 32) (clear-here word m v mask o.0 is clear)
    (clear-here word m v number o.0 is none)) [
      | inl h ↦ (
          let side : behind word t n ≡ behind word p n = grind (arith, nat_tests, in_word, h.0) in (
            grind (arith, sum, first.0, second.0, h.1, h.2),
            All-append (LeadsTo (behind word t n) n) lower higher (rw side first.1)
                (none-leads n (behind word t n) higher (grind (arith, second.0, h.2))),
          ))
      | inr h ↦ (
          let side : behind word t n ≡ behind word q n = grind (arith, nat_tests, in_word, h.0) in (
            grind (arith, sum, first.0, second.0, h.1, h.2),
            All-append (LeadsTo (behind word t n) n) lower higher
                (none-leads n (behind word t n) lower (grind (arith, first.0, h.1))) (rw side second.1),
          ))
    ])
    (λ out. (
      way-alone mask number n t,
      All-cons (LeadsTo (behind word t n) n) (span_part mask number number t) []
          (λ has. sym (behind-outside word t n out)) (All-nil (LeadsTo (behind word t n) n)),
    ))

-- ---- each way has a number

-- each bit of a number is one of the mask
abbrev AreUnder : ℕ → ℕ → Type 0
AreUnder mask x = (j : ℕ) → bit_at x j ≤ bit_at mask j

way-one : (mask number : ℕ) (t : Tree) → mask < 2 ^ 32 → AreUnder mask number
    → All HasNumber (span_part mask number number t ∷ [])
way-one mask number t low under =
    let same : bit_and number mask ≡ number
    = same_from_bits _ _ (λ j. grind (arith, bit_at_and number mask j, under j)) in
    let has = has-way mask number number t ∙ eq-eqb _ number same in
    All-cons HasNumber _ [] (number, omega (arith, and_le_r number mask), has) (All-nil HasNumber)

way-some : (word mask number : ℕ) (t : Tree) → mask < 2 ^ 32 → AreUnder mask number
    → All HasNumber (ways_from word mask number t)
way-some word mask number (Leaf c) low under = way-one mask number (Leaf c) low under
way-some word mask number (Fork v p q) low under =
    let w : ℕ = 2 ^ (31 - v % 32) in
    let wide : with_bit mask v < 2 ^ 32 = or_lt 32 mask w low (pow_below (31 - v % 32) 32 (omega arith)) in
    cond_both (v / 32 == word) _ _ (λ ps. All HasNumber ps)
    (λ _. All-append HasNumber (ways_from word (with_bit mask v) number p)
    (ways_from word (with_bit mask v) (with_bit number v) q)
    (way-some word (with_bit mask v) number p wide (λ j. omega (arith, under j, bit_at_or mask w j)))
    (way-some word (with_bit mask v) (with_bit number v) q wide
    (λ j. omega (arith, under j, bit_at_or mask w j, bit_at_or number w j))))
    (λ _. way-one mask number (Fork v p q) low under)

-- ---- the parts of a word, however it is listed

pub parts_in-right : (word : ℕ) (apart : Bool) (t : Tree) → IsOrderedFrom (32 * word) t
    → AreParts word t (parts_in word apart t)
parts_in-right word apart t o =
    cond_both (nat_le (length (runs_in word t)) (suc (test_count word t)))
    (if apart then map (λ r. span_part (mask_in word t) r.first r.last r.behind) (runs_in word t)
    else joined_parts (mask_in word t) (runs_in word t))
    (ways_from word 0 0 t) (AreParts word t)
    (λ _. runs-listed-right word apart t o)
    (λ _.
    let none : AreClear word (32 * word) 0 = λ j l above. bit_at-zero j in
    let right = λ (n : ℕ). way-right word 0 0 t (32 * word) n o none none in
    record {
      once = λ n. (right n).0 ∙ cond-true (bit_and n 0 == 0) 1 0 (eq-eqb (bit_and n 0) 0 (and_zero_r n));
      lead = λ n. (right n).1;
      some = way-some word 0 0 t (lit< tt) (λ j. omega arith);
    })
