-- The runs of a word: each number is in the one that tells what comes behind it.
use Rattle.sf_parts.proofs.Common.{nat_tests, common_steps, ◌≡◌, ◌≢◌, ℕ, zero, suc, ◌+◌, ◌-◌, ◌*◌, ◌%◌, ◌^◌, ◌<◌, ◌≤◌, ◌==◌, false, List, [], ◌∷◌, ◌++◌, length, map, refl, ap, subst, ◌∙◌, arith, lit<, lit≤, bit_and, bit_or, if◌then◌else◌, and_zero_l, bit_at, cond_both, eqb-true, eqb-false, reverse-append, length-map, pow_pos, pow_below, mod_below, and_le_r, and_mod, or_lt, or_disjoint, bit_at-lt, bit_at_and, bit_at_or, bit_at-pow_same, bit_at-pow_other, bit_at_ones, bit_at_above, and_pow, same_from_bits, mod-mod-pow, add-mod_right, zero-mod, Tree, Leaf, Fork, IsOrderedFrom, double, is_in, behind, lower_at, higher_at, tested, RunData, mask_in, with_run, runs_before, runs_in, run_seen, runs_seen, Run}
use Rattle.sf_parts.proofs.word.WordLemmas.{in-block, halves, is_same_tree-true, behind-outside, behind-lower, behind-higher, sides-ordered, IsUnder, sides-under, unmasked-ordered, tested-under}

-- From p on, each number under the mask is in the first run that does not end before it, and the behind of that run is
-- what comes behind the number. The runs follow one another, and each begins with a number under the mask.
abbrev pub AreRuns : ℕ → ℕ → Tree → ℕ → List RunData → Type 0
AreRuns word mask t p [] = (n : ℕ) → p ≤ bit_and n mask → ⊥
AreRuns word mask t p (r ∷ rest) =
    (p ≤ r.first) × (r.first ≤ r.last) × (bit_and r.first mask ≡ r.first)
    × ((n : ℕ) → p ≤ bit_and n mask → bit_and n mask ≤ r.last
    → (r.first ≤ bit_and n mask) × (behind word t n ≡ r.behind))
    × AreRuns word mask t (suc r.last) rest

-- runs may begin earlier where there are no numbers between
earlier : (word mask : ℕ) (t : Tree) (p q : ℕ) (rest : List RunData) → p ≤ q → AreRuns word mask t q rest
    → ((n : ℕ) → p ≤ bit_and n mask → bit_and n mask < q → ⊥) → AreRuns word mask t p rest
earlier word mask t p q [] pq are none = λ n from. grind (arith, none n from, are n)
earlier word mask t p q (r ∷ rest) pq are none =
    (omega (arith, are.0), are.1, are.2, λ n from upto. grind (arith, none n from, are.3 n), are.4)

with_run-right : (word mask : ℕ) (t : Tree) (first last limit : ℕ) (b : Tree) (rest : List RunData) → first ≤ last
    → last < limit → bit_and first mask ≡ first
    → ((n : ℕ) → first ≤ bit_and n mask → bit_and n mask < limit
    → (bit_and n mask ≤ last) × (behind word t n ≡ b))
    → AreRuns word mask t limit rest → AreRuns word mask t first (with_run first last b rest)
with_run-right word mask t first last limit b [] some short under block are = grind (arith, block, are)
with_run-right word mask t first last limit b (r ∷ rest) some short under block are =
    grind (arith, is_same_tree-true r.behind b, earlier word mask t (suc last) limit (r ∷ rest), block, are)

-- the runs of both halves of a block, before others; and those of a block behind a node that tests the word
abbrev pub halves_before : ℕ → ℕ → ℕ → ℕ → Tree → List RunData → List RunData
halves_before word mask k first s rest =
    runs_before word mask k first (lower_at k s) (runs_before word mask k (first + 2 ^ k) (higher_at k s) rest)

abbrev pub block_before : ℕ → ℕ → ℕ → ℕ → Tree → List RunData → List RunData
block_before word mask k first s rest =
    if bit_at mask k == 1 then halves_before word mask k first s rest else runs_before word mask k first s rest

-- under a mask, the lowest bits of a number are not more than those of the mask
low-under : (n mask k : ℕ) → bit_and n mask % 2 ^ k ≤ mask % 2 ^ k
low-under n mask k = omega (arith, and_mod n mask k, and_le_r (n % 2 ^ k) (mask % 2 ^ k))

-- a bit of the mask is that of the number
bit-under : (n mask k : ℕ) → bit_at mask k ≡ 1 → bit_at (bit_and n mask) k ≡ bit_at n k
bit-under n mask k e = omega (arith, bit_at_and n mask k, bit_at-lt n k)

bit-unmasked : (n mask k : ℕ) → bit_at mask k ≢ 1 → bit_at (bit_and n mask) k ≡ 0
bit-unmasked n mask k other = omega (arith, bit_at_and n mask k, bit_at-lt mask k)

aligned-lower : (first k : ℕ) → first % 2 ^ suc k ≡ 0 → first % 2 ^ k ≡ 0
aligned-lower first k e = grind (arith, common_steps, mod-mod-pow first 1 k, zero-mod)

aligned-higher : (first k : ℕ) → first % 2 ^ k ≡ 0 → (first + 2 ^ k) % 2 ^ k ≡ 0
aligned-higher first k e = add-mod_right first (2 ^ k) ∙ e

-- under a mask, a number with one of its bits besides
under-bit : (x mask k : ℕ) → bit_at x k ≡ 0 → bit_at mask k ≡ 1 → bit_and x mask ≡ x
    → bit_and (x + 2 ^ k) mask ≡ x + 2 ^ k
under-bit x mask k clear one h =
    let sum : bit_or x (2 ^ k) ≡ x + 2 ^ k = or_disjoint x (2 ^ k) (and_pow x k ∙ grind arith) in
    rw (← sum) (same_from_bits _ _ (λ j.
    grind (arith, h, bit_at_and, bit_at_or, bit_at-lt, bit_at-pow_same, bit_at-pow_other)))

clear-bit : (first k : ℕ) → first % 2 ^ suc k ≡ 0 → bit_at first k ≡ 0
clear-bit first k aligned = grind (arith, halves first k first aligned, pow_pos)

-- what comes behind the numbers of a block in t comes behind them in s
abbrev pub IsBlock : ℕ → ℕ → ℕ → ℕ → Tree → Tree → Type 0
IsBlock word mask first size t s =
    (n : ℕ) → first ≤ bit_and n mask → bit_and n mask < first + size → behind word t n ≡ behind word s n

past : (word : ℕ) (s : Tree) → IsOrderedFrom (32 * word + 32) s → is_in word s ≡ false
past word (Leaf c) o = refl
past word (Fork v p q) o = grind (arith, nat_tests, o.0)

pub runs-right : (word mask k : ℕ) (t s : Tree) (first : ℕ) (rest : List RunData) → k ≤ 32
    → IsOrderedFrom (32 * word + (32 - k)) s → IsUnder word mask s → first % 2 ^ k ≡ 0 → bit_and first mask ≡ first
    → IsBlock word mask first (2 ^ k) t s → AreRuns word mask t (first + 2 ^ k) rest
    → AreRuns word mask t first (runs_before word mask k first s rest)
unfolding runs_before
runs-right word mask zero t s first rest l o u aligned begin block are =
    with_run-right word mask t first first (first + 1) s rest (omega arith) (omega arith) begin
    (λ n from less. (omega arith, block n from less ∙ behind-outside word s n (past word s o))) are
runs-right word mask (suc k) t s first rest l o u aligned begin block are =
    let small : k < 32 = omega arith in
    let twice : 2 ^ suc k ≡ 2 ^ k + 2 ^ k = double k in
    let some : 0 < 2 ^ k = pow_pos k in
    let ordered : IsOrderedFrom (32 * word + (31 - k)) s
    = subst (λ (m : ℕ). IsOrderedFrom (32 * word + m) s) (omega arith) o in
    let even : first % 2 ^ k ≡ 0 = aligned-lower first k aligned in
    let half = λ (n : ℕ) (from : first ≤ bit_and n mask) (less : bit_and n mask < first + 2 ^ suc k).
    halves first k (bit_and n mask) aligned from less in
    cond_both (is_in word s) (block_before word mask k first s rest)
    (with_run first (first + mask % 2 ^ suc k) s rest) (AreRuns word mask t first)
    (λ is. cond_both (bit_at mask k == 1) (halves_before word mask k first s rest)
    (runs_before word mask k first s rest) (AreRuns word mask t first)
    (λ has.
    let one : bit_at mask k ≡ 1 = eqb-true (bit_at mask k) 1 has in
    let both = sides-ordered word k s small is ordered in
    let under = sides-under word mask k s is u in
    runs-right word mask k t (lower_at k s) first
    (runs_before word mask k (first + 2 ^ k) (higher_at k s) rest) (omega arith) both.0 under.0 even begin
    (λ n from less. block n from (omega arith)
    ∙ behind-lower word k s n is (grind (arith, half n from, bit-under n mask k one)))
    (runs-right word mask k t (higher_at k s) (first + 2 ^ k) rest (omega arith) both.1 under.1
    (aligned-higher first k even) (under-bit first mask k (clear-bit first k aligned) one begin)
    (λ n from less. block n (omega arith) (omega arith)
    ∙ behind-higher word k s n is (grind (arith, half n, bit-under n mask k one)))
    (subst (λ (m : ℕ). AreRuns word mask t m rest) (omega arith) are)))
    (λ not_there.
    let other : bit_at mask k ≢ 1 = eqb-false (bit_at mask k) 1 not_there in
    runs-right word mask k t s first rest (omega arith) (unmasked-ordered word mask k s small is u other ordered) u
    even begin (λ n from less. block n from (omega arith))
    (earlier word mask t (first + 2 ^ k) (first + 2 ^ suc k) rest (omega arith) are
    (λ n from less. grind (arith, half n, bit-unmasked n mask k other)))))
    (λ out.
    let low : mask % 2 ^ suc k < 2 ^ suc k = mod_below mask (2 ^ suc k) (pow_pos (suc k)) in
    with_run-right word mask t first (first + mask % 2 ^ suc k) (first + 2 ^ suc k) s rest (omega arith) (omega arith)
    begin (λ n from less. (
      omega (arith, in-block first (suc k) (bit_and n mask) aligned from less, low-under n mask (suc k)),
      block n from less ∙ behind-outside word s n out,
    ))
    are)

tested-small : (word : ℕ) (t : Tree) → tested word t < 2 ^ 32
tested-small word (Leaf c) = lit< tt
tested-small word (Fork v p q) =
    grind (arith, or_lt 32, pow_below (31 - v % 32) 32 (omega arith), tested-small word p, tested-small word q)

pub mask-small : (word : ℕ) (t : Tree) → mask_in word t < 2 ^ 32
mask-small word t = grind (arith, nat_tests, tested-small word t)

-- the mask has each bit that is tested
mask-under : (word : ℕ) (t : Tree) → IsUnder word (mask_in word t) t
mask-under word t = tested-under word (mask_in word t) t (λ j e.
    grind (arith, nat_tests, bit_at_ones 32 j, bit_at_above (tested word t) 32 j (tested-small word t)))

-- the runs of a word of a tree that tests no earlier word
pub runs_in-right : (word : ℕ) (t : Tree) → IsOrderedFrom (32 * word) t
    → AreRuns word (mask_in word t) t 0 (runs_in word t)
runs_in-right word t o =
    runs-right word (mask_in word t) 32 t t 0 [] (lit≤ tt) (subst (λ (m : ℕ). IsOrderedFrom m t) (omega arith) o)
    (mask-under word t) (zero-mod (2 ^ 32)) (and_zero_l (mask_in word t)) (λ n from less. refl)
    (λ n from. omega (arith, and_le_r n (mask_in word t), mask-small word t))

-- no fewer runs than so many, and at least one
abbrev AreMore : ℕ → List RunData → Type 0
AreMore n runs = (n ≤ length runs) × (0 < length runs)

with_run-length : (first last : ℕ) (b : Tree) (rest : List RunData) → AreMore (length rest) (with_run first last b rest)
with_run-length first last b rest = grind arith

pub runs-length : (word mask k first : ℕ) (s : Tree) (rest : List RunData)
    → AreMore (length rest) (runs_before word mask k first s rest)
unfolding runs_before
runs-length word mask zero first s rest = with_run-length first first s rest
runs-length word mask (suc k) first s rest =
    let high : List RunData = runs_before word mask k (first + 2 ^ k) (higher_at k s) rest in
    let higher = runs-length word mask k (first + 2 ^ k) (higher_at k s) rest in
    let lower = runs-length word mask k first (lower_at k s) high in
    let one = with_run-length first (first + mask % 2 ^ suc k) s rest in
    grind (arith, one, runs-length word mask k first s rest, higher, lower)

-- ---- one step of the recursion, as the code does it

-- the runs of a block, by those of its halves
pub runs-by : (word mask b first : ℕ) (s : Tree) (rest : List RunData)
    → runs_before word mask b first s rest
    ≡ (if b == 0 then with_run first first s rest
    else if is_in word s then block_before word mask (b - 1) first s rest
    else with_run first (first + mask % 2 ^ b) s rest)
unfolding runs_before
runs-by word mask zero first s rest = refl
runs-by word mask (suc k) first s rest = grind (arith, nat_tests)

-- ---- runs of the code

pub runs_seen-push : (ts : List Tree) (runs : List Run) (r : Run)
    → runs_seen ts (runs ++ r ∷ []) ≡ run_seen ts r ∷ runs_seen ts runs
runs_seen-push ts runs r = ap (map (run_seen ts)) (reverse-append runs (r ∷ []))

-- a word has runs
pub runs_in-some : (word : ℕ) (t : Tree) (ts : List Tree) (runs : List Run) → map (run_seen ts) runs ≡ runs_in word t
    → 0 < length runs
runs_in-some word t ts runs e =
    omega (arith, length-map runs (run_seen ts), (runs-length word (mask_in word t) 32 0 t []).1, ap length e)

-- ---- the code's recursion

pub power : (b k : ℕ) → b ≡ suc k → 2 ^ b ≡ 2 ^ k + 2 ^ k
power b k e = ap (λ (m : ℕ). 2 ^ m) e ∙ double k
