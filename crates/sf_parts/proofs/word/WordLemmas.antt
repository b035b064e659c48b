-- Words of trees: their bits, what comes behind them, and where a tree is told from another.
use Rattle.sf_parts.proofs.Common.{nat_tests, ◌≡◌, ◌≢◌, ℕ, zero, suc, ◌+◌, ◌-◌, ◌*◌, ◌/◌, ◌%◌, ◌^◌, ◌<◌, ◌≤◌, ◌==◌, Bool, true, false, List, length, refl, ap, ◌∙◌, arith, ◌⊎◌, bit_or, if◌then◌else◌, bit_at, cond-false, eqb-true, eq-eqb, shr_split, mod_low, mod_below, pow_pos, bit_at-lt, bit_at_or, bit_at-pow_same, bit_at_cat_low, bit_at_cat_high, Tree, Leaf, Fork, Bits, value, IsOrderedFrom, tree_at, AreCanonical, low-more, low-small, ordered-weaker, low_number, word_number, is_in, behind, lower_at, higher_at, tested, is_same_tree}

-- ---- numbers and their bits

-- a number of a block is its first one and its own lowest bits
pub in-block : (first k x : ℕ) → first % 2 ^ k ≡ 0 → first ≤ x → x < first + 2 ^ k → x ≡ first + x % 2 ^ k
in-block first k x aligned from below =
    let here : x ≡ first / 2 ^ k * 2 ^ k + (x - first) = omega (arith, shr_split first k) in
    let low : x % 2 ^ k ≡ x - first
    = ap (λ (m : ℕ). m % 2 ^ k) here ∙ mod_low (first / 2 ^ k) k (x - first) (omega arith) in
    omega arith

-- a number of a block is in its lower half, or in its higher one, by its bit
pub halves : (first k x : ℕ) → first % 2 ^ suc k ≡ 0 → first ≤ x → x < first + 2 ^ suc k
    → ((bit_at x k ≡ 0) × (x < first + 2 ^ k)) ⊎ ((bit_at x k ≡ 1) × (first + 2 ^ k ≤ x))
halves first k x aligned from below =
    let low = mod_below x (2 ^ k) (pow_pos k) in
    grind (arith, in-block first (suc k) x aligned from below, bit_at-lt x k, low, low-more x k)

-- ---- trees that are one

pub is_same_tree-true : (s t : Tree) → is_same_tree s t ≡ true → s ≡ t
is_same_tree-true (Leaf a) (Leaf b) e = ap Leaf (eqb-true a b e)
is_same_tree-true (Fork v p q) (Fork w r s) e = grind (arith, nat_tests, is_same_tree-true p r, is_same_tree-true q s)
is_same_tree-true s t e = cc

pub is_same_tree-self : (t : Tree) → is_same_tree t t ≡ true
is_same_tree-self (Leaf a) = eq-eqb a a refl
is_same_tree-self (Fork v p q) = grind (arith, nat_tests, is_same_tree-self p, is_same_tree-self q)

-- two nodes of a store are one where their trees are
pub same-ids : (ts : List Tree) (i j : ℕ) → AreCanonical ts → i < length ts → j < length ts
    → (i == j) ≡ is_same_tree (tree_at ts i) (tree_at ts j)
same-ids ts i j canonical li lj =
    let one = is_same_tree-true (tree_at ts i) (tree_at ts j) in
    grind (arith, nat_tests, canonical.once i j li lj, one, is_same_tree-self)

-- ---- trees that test a word

-- what comes behind a fork of the word
abbrev inner : ℕ → ℕ → Tree → Tree → ℕ → Tree
inner word v p q n = if bit_at n (31 - v % 32) == 1 then behind word q n else behind word p n

pub behind-outside : (word : ℕ) (t : Tree) (n : ℕ) → is_in word t ≡ false → behind word t n ≡ t
behind-outside word (Leaf c) n e = refl
behind-outside word (Fork v p q) n e = cond-false (v / 32 == word) (inner word v p q n) (Fork v p q) e

pub tested-inside : (word v : ℕ) (p q : Tree) → v / 32 ≡ word → tested word (Fork v p q)
    ≡ bit_or (bit_or (2 ^ (31 - v % 32)) (tested word p)) (tested word q)
tested-inside word v p q e = grind (arith, nat_tests)

-- behind a fork that tests a bit comes what its bit tells
behind-here : (word v k : ℕ) (p q : Tree) (n : ℕ) → (v / 32 == word) ≡ true → v % 32 + k ≡ 31
    → behind word (Fork v p q) n ≡ (if bit_at n k == 1 then behind word q n else behind word p n)
behind-here word v k p q n is sum = grind (arith, nat_tests)

-- where the bit is not set, what comes behind comes behind the lower side
pub behind-lower : (word k : ℕ) (t : Tree) (n : ℕ) → is_in word t ≡ true → bit_at n k ≡ 0
    → behind word t n ≡ behind word (lower_at k t) n
behind-lower word k (Leaf c) n is e = refl
behind-lower word k (Fork v p q) n is e = grind (arith, nat_tests, behind-here word v k p q n is)

-- where it is set, behind the higher side
pub behind-higher : (word k : ℕ) (t : Tree) (n : ℕ) → is_in word t ≡ true → bit_at n k ≡ 1
    → behind word t n ≡ behind word (higher_at k t) n
behind-higher word k (Leaf c) n is e = refl
behind-higher word k (Fork v p q) n is e = grind (arith, nat_tests, behind-here word v k p q n is)

-- ---- the order of tests

-- the sides at a bit test lower bits only
pub sides-ordered : (word k : ℕ) (t : Tree) → k < 32 → is_in word t ≡ true
    → IsOrderedFrom (32 * word + (31 - k)) t
    → IsOrderedFrom (32 * word + (32 - k)) (lower_at k t) × IsOrderedFrom (32 * word + (32 - k)) (higher_at k t)
sides-ordered word k (Leaf c) l is o = (tt, tt)
sides-ordered word k (Fork v p q) l is o = grind (arith, nat_tests, ordered-weaker, o.0, o.1, o.2)

-- each bit of the word that is tested is one of the mask
abbrev pub IsUnder : ℕ → ℕ → Tree → Type 0
IsUnder word mask (Leaf c) = Unit {0}
IsUnder word mask (Fork v p q) =
    v / 32 ≡ word → (bit_at mask (31 - v % 32) ≡ 1) × IsUnder word mask p × IsUnder word mask q

pub sides-under : (word mask k : ℕ) (t : Tree) → is_in word t ≡ true → IsUnder word mask t
    → IsUnder word mask (lower_at k t) × IsUnder word mask (higher_at k t)
sides-under word mask k (Leaf c) is u = (tt, tt)
sides-under word mask k (Fork v p q) is u = grind (arith, nat_tests, u (eqb-true (v / 32) word is))

-- a bit that is not in the mask is not tested
pub unmasked-ordered : (word mask k : ℕ) (t : Tree) → k < 32 → is_in word t ≡ true → IsUnder word mask t
    → bit_at mask k ≢ 1 → IsOrderedFrom (32 * word + (31 - k)) t → IsOrderedFrom (32 * word + (32 - k)) t
unmasked-ordered word mask k (Leaf c) l is u not_there o = tt
unmasked-ordered word mask k (Fork v p q) l is u not_there o =
    (grind (arith, nat_tests, (u (eqb-true (v / 32) word is)).0), o.1, o.2)

-- the mask has each bit that is tested
pub tested-under : (word mask : ℕ) (t : Tree) → ((j : ℕ) → bit_at (tested word t) j ≡ 1 → bit_at mask j ≡ 1)
    → IsUnder word mask t
tested-under word mask (Leaf c) h = tt
tested-under word mask (Fork v p q) h = λ in_word.
    let b : ℕ = 31 - v % 32 in
    let own = λ (j : ℕ) (x : bit_at (bit_or (bit_or (2 ^ b) (tested word p)) (tested word q)) j ≡ 1).
    h j (ap (λ (m : ℕ). bit_at m j) (tested-inside word v p q in_word) ∙ x) in (
      own b (grind (arith, bit_at_or, bit_at-lt, bit_at-pow_same)),
      tested-under word mask p (λ j e. own j (grind (arith, bit_at_or, bit_at-lt))),
      tested-under word mask q (λ j e. own j (grind (arith, bit_at_or, bit_at-lt))),
    )

-- ---- the number that an input has in a word

flag-bit : (b : Bool) → bit_at (if b then 1 else 0) 0 ≡ (if b then 1 else 0)
flag-bit true = refl
flag-bit false = refl

bit-in : (word k j : ℕ) (bits : Bits) → j < k
    → bit_at (low_number word k bits) j ≡ (if bits (32 * word + (31 - j)) then 1 else 0)
unfolding low_number
bit-in word zero j bits l = absurd (omega arith)
bit-in word (suc k) j bits l =
    grind (arith, bit_at_cat_low, bit_at_cat_high, low-small, bit-in word k j bits, flag-bit)

-- a tree has on an input the value of what comes behind its number in a word
pub value-behind : (word : ℕ) (t : Tree) (bits : Bits)
    → value t bits ≡ value (behind word t (word_number word bits)) bits
value-behind word (Leaf c) bits = refl
value-behind word (Fork v p q) bits =
    grind (arith, nat_tests, bit-in word 32 (31 - v % 32) bits, value-behind word p bits, value-behind word q bits)
