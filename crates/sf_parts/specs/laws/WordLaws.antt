-- Laws of words, of the numbers in them, and of what comes behind them.
use Rattle.std.proofs.lemmas.Bool.Decides.{nat_tests}
use Rattle.std.proofs.Common.{◌≡◌, ℕ, zero, suc, ◌+◌, ◌-◌, ◌*◌, ◌%◌, ◌^◌, ◌<◌, ◌≤◌, ◌==◌, ap, ◌∙◌, arith, lit<}
use Rattle.std.specs.Prelude.{if◌then◌else◌}
use Rattle.std.specs.Int.{bit_at}
use Rattle.std.proofs.lemmas.Nat.{pow-add, mod-pow-add}
use Rattle.sf_diagram.specs.Trees.{Tree, Leaf, Fork, Bits, IsOrderedFrom}
use Rattle.sf_parts.specs.Words.{low_number, behind, EndsBefore}
use Rattle.sf_parts.specs.Rows.{IsCrowded}

-- the next power of 2 is twice the last one
pub double : (k : ℕ) → 2 ^ suc k ≡ 2 ^ k + 2 ^ k
double k =
    let next : suc k ≡ 1 + k = omega arith in
    let two : 2 ^ 1 * 2 ^ k ≡ 2 ^ k + 2 ^ k = omega arith in
    ap (λ (m : ℕ). 2 ^ m) next ∙ pow-add 2 1 k ∙ two

-- the lowest bits with one more
pub low-more : (x k : ℕ) → bit_at x k * 2 ^ k + x % 2 ^ k ≡ x % 2 ^ suc k
low-more x k = grind (arith, mod-pow-add x 1 k)

-- a bit, by whether it is set
pub bit-if : (b : ℕ) → b < 2 → (if b == 1 then 1 else 0) ≡ b
bit-if b l = grind (arith, nat_tests)

-- the lowest bits of a word make no greater number
pub low-small : (word k : ℕ) (bits : Bits) → low_number word k bits < 2 ^ k
unfolding low_number
low-small word zero bits = lit< tt
low-small word (suc k) bits = grind (arith, double k, low-small word k bits)

-- a tree from a later variable on is one from an earlier one on
pub ordered-weaker : (t : Tree) (m n : ℕ) → IsOrderedFrom n t → m ≤ n → IsOrderedFrom m t
ordered-weaker (Leaf c) m n o l = tt
ordered-weaker (Fork v p q) m n o l = (omega (arith, o.0), o.1, o.2)

-- behind a word comes a tree that tests later words only
pub behind-ordered : (word : ℕ) (t : Tree) (n m : ℕ) → 32 * word ≤ m → IsOrderedFrom m t
    → IsOrderedFrom (32 * suc word) (behind word t n)
behind-ordered word (Leaf c) n m le o = tt
behind-ordered word (Fork v p q) n m le o =
    grind (arith, nat_tests, o.0, o.1, o.2, behind-ordered word p n (suc v), behind-ordered word q n (suc v))

-- and no further ones than the tree
pub behind-below : (word limit : ℕ) (t : Tree) (n : ℕ) → EndsBefore limit t → EndsBefore limit (behind word t n)
behind-below word limit (Leaf c) n h = tt
behind-below word limit (Fork v p q) n h =
    grind (arith, nat_tests, h, behind-below word limit p n h.1, behind-below word limit q n h.2)

-- what is crowded behind a word is crowded
pub crowded_behind : (limit word : ℕ) (t : Tree) (n : ℕ) → IsCrowded limit (behind word t n) → IsCrowded limit t
crowded_behind limit word (Leaf c) n h = h
crowded_behind limit word (Fork v p q) n h =
    grind (arith, nat_tests, h, crowded_behind limit word p n, crowded_behind limit word q n)
