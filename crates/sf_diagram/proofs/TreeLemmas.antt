-- Ordered reduced trees with one value on each input are equal.
use Rattle.sf_diagram.proofs.Common.{◌≡◌, ◌≢◌, ℕ, suc, ◌<◌, ◌==◌, Bool, true, false, refl, sym, ap, ◌∙◌, inl, inr, arith, if◌then◌else◌, cases_lt, cases_order, Tree, Leaf, Fork, Bits, value, IsOrderedFrom, IsOrderedTree, IsReducedTree, AreFrom, value_from}

-- an input with one variable set to b
abbrev pub with_bit : Bits → ℕ → Bool → Bits
with_bit bits v b w = if w == v then b else bits w

pub with_bit-same : (bits : Bits) (v : ℕ) (b : Bool) → with_bit bits v b v ≡ b
with_bit-same bits v b = grind arith

pub with_bit-other : (bits : Bits) (v : ℕ) (b : Bool) (w : ℕ) → w ≢ v → with_bit bits v b w ≡ bits w
with_bit-other bits v b w h = grind arith

-- a variable above a tree does not matter to it
pub value-above : (t : Tree) (n v : ℕ) (b : Bool) (bits : Bits) → IsOrderedFrom n t → v < n
    → value t (with_bit bits v b) ≡ value t bits
value-above t n v b bits o l =
    value_from t n o (with_bit bits v b) bits (λ w le. with_bit-other bits v b w (omega arith))

pub value-lower : (v : ℕ) (p q : Tree) (bits : Bits) → IsOrderedFrom (suc v) p
    → value (Fork v p q) (with_bit bits v false) ≡ value p bits
value-lower v p q bits o = rw (with_bit-same bits v false) (value-above p (suc v) v false bits o (omega arith))

pub value-higher : (v : ℕ) (p q : Tree) (bits : Bits) → IsOrderedFrom (suc v) q
    → value (Fork v p q) (with_bit bits v true) ≡ value q bits
value-higher v p q bits o = rw (with_bit-same bits v true) (value-above q (suc v) v true bits o (omega arith))

abbrev AreOne : Tree → Tree → Type 0
AreOne s t = (bits : Bits) → value s bits ≡ value t bits

-- each ordered reduced tree that has the values of this one is this one
abbrev IsAlone : Tree → Type 0
IsAlone s = (t : Tree) (n : ℕ) → IsOrderedFrom n t → IsReducedTree t → AreOne s t → s ≡ t

-- a fork with two sides has other values than each tree of greater variables that is told by its values
apart : (v : ℕ) (p q u : Tree) → IsOrderedFrom (suc v) p → IsOrderedFrom (suc v) q → p ≢ q → IsOrderedFrom (suc v) u
    → (AreOne u p → u ≡ p) → (AreOne u q → u ≡ q) → AreOne u (Fork v p q) → ⊥
apart v p q u op oq ne ou low high same =
    ne (sym (low (λ x. to x false ∙ value-lower v p q x op)) ∙ high (λ x. to x true ∙ value-higher v p q x oq))
  where
    to : (x : Bits) (b : Bool) → value u x ≡ value (Fork v p q) (with_bit x v b)
    to x b = sym (value-above u (suc v) v b x ou (omega arith)) ∙ same (with_bit x v b)

leaf-alone : (c : ℕ) → IsAlone (Leaf c)
leaf-alone c (Leaf d) n o r same = ap Leaf (same (λ _. false))
leaf-alone c (Fork w p q) n o r same = absurd (apart w p q (Leaf c) o.1 o.2 r.0 tt
    (leaf-alone c p (suc w) o.1 r.1) (leaf-alone c q (suc w) o.2 r.2) same)

fork-alone : (v : ℕ) (p q : Tree) → IsAlone p → IsAlone q → IsOrderedFrom (suc v) p → IsOrderedFrom (suc v) q
    → p ≢ q → IsAlone (Fork v p q)
fork-alone v p q hp hq op oq ne = by
  where
    above : (u : Tree) → IsOrderedFrom (suc v) u → IsReducedTree u → AreOne (Fork v p q) u → Fork v p q ≡ u
    above u ou r same = absurd (apart v p q u op oq ne ou (λ h. sym (hp u (suc v) ou r (λ x. sym (h x))))
        (λ h. sym (hq u (suc v) ou r (λ x. sym (h x)))) (λ x. sym (same x)))

    by : IsAlone (Fork v p q)
    by (Leaf d) n o r same = above (Leaf d) tt tt same
    by (Fork w s t) n o r same = elim (cases_order v w) [
      | inl e ↦ (
          let low : p ≡ s = hp s (suc w) o.1 r.1 (λ x. sym (value-lower v p q x op) ∙ same (with_bit x v false)
          ∙ rw e (value-lower w s t x o.1)) in
          let high : q ≡ t = hq t (suc w) o.2 r.2 (λ x. sym (value-higher v p q x oq) ∙ same (with_bit x v true)
          ∙ rw e (value-higher w s t x o.2)) in
          rw (e, low, high) refl)
      | inr (inl less) ↦ above (Fork w s t) (omega arith, o.1, o.2) r same
      | inr (inr more) ↦ absurd (apart w s t (Fork v p q) o.1 o.2 r.0 (omega arith, op, oq) (by s (suc w) o.1 r.1)
          (by t (suc w) o.2 r.2) same)
    ]

alone : (s : Tree) (n : ℕ) → IsOrderedFrom n s → IsReducedTree s → IsAlone s
alone (Leaf c) n o r = leaf-alone c
alone (Fork v p q) n o r =
    fork-alone v p q (alone p (suc v) o.1 r.1) (alone q (suc v) o.2 r.2) o.1 o.2 r.0

pub one-tree : (s t : Tree) → IsOrderedTree s → IsReducedTree s → IsOrderedTree t → IsReducedTree t → AreOne s t → s ≡ t
one-tree s t os rs ot rt same = alone s 0 os rs t 0 ot rt same

-- an ordered reduced tree to whose values no variable below n matters is ordered from n on
pub ordered-from : (t : Tree) (n : ℕ) (f : Bits → ℕ) → IsOrderedTree t → IsReducedTree t
    → ((bits : Bits) → value t bits ≡ f bits) → AreFrom n f → IsOrderedFrom n t
ordered-from (Leaf c) n f o r same from = tt
ordered-from (Fork v p q) n f o r same from = elim (cases_lt v n) [
  | inl less ↦ absurd (r.0 (alone p (suc v) o.1 r.1 q (suc v) o.2 r.2 (λ x. sym (value-lower v p q x o.1)
      ∙ same (with_bit x v false) ∙ from (with_bit x v false) (with_bit x v true) (λ w l.
      with_bit-other x v false w (omega arith) ∙ sym (with_bit-other x v true w (omega arith)))
      ∙ sym (same (with_bit x v true)) ∙ value-higher v p q x o.2)))
  | inr le ↦ (le, o.1, o.2)
]
