-- Where a store has no room for a tree that is asked for.
use Rattle.sf_diagram.proofs.Common.{common_steps, ◌≡◌, ◌≢◌, ◌⊎◌, ℕ, suc, ◌<◌, Bool, true, false, length, refl, sym, ◌∙◌, inl, inr, arith, if◌then◌else◌, cases_eq, Tree, Leaf, Fork, Bits, value, IsOrderedFrom, IsOrderedTree, IsReducedTree, StoreData, tree_at, IsLawfulStore, HasNoRoom, IsSpentFor, Stands, HasValues, AreDivided}
use Rattle.sf_diagram.proofs.task.TaskLemmas.{made-ordered, joined-values}
use Rattle.sf_diagram.proofs.TreeLemmas.{with_bit, with_bit-same, with_bit-other, value-above, value-lower, value-higher, ordered-from, one-tree}

-- a tree of a store whose variables are from v on has both sides at v in the store
side-there : (s : StoreData) (t : Tree) (v : ℕ) (b : Bool) → IsLawfulStore s → Stands s t → IsOrderedFrom v t
    → (u : Tree) × (Stands s u) × ((bits : Bits) → value u bits ≡ value t (with_bit bits v b))
side-there s (Leaf c) v b lawful at o = (Leaf c, at, λ bits. refl)
side-there s (Fork w p q) v b lawful at o = elim (cases_eq w v) [
  | inl e ↦ (
      let sides : Stands s p × Stands s q = lawful.closed w p q at in
      elim b as (λ x.
      (u : Tree) × (Stands s u) × ((bits : Bits) → value u bits ≡ value (Fork w p q) (with_bit bits v x))) [
        | true ↦ (q, sides.1, λ bits. rw (← e) (sym (value-higher w p q bits o.2)))
        | false ↦ (p, sides.0, λ bits. rw (← e) (sym (value-lower w p q bits o.1)))
      ])
  | inr other ↦ (
    Fork w p q,
    at,
    λ bits. sym (value-above (Fork w p q) (suc v) v b bits (omega (arith, o.0), o.1, o.2) (omega arith)),
  )
]

-- the numbers on the inputs that lead to a side
side-values : (v : ℕ) (b : Bool) (f lower higher : Bits → ℕ) (bits : Bits) → AreDivided v f lower higher
    → f (with_bit bits v b) ≡ (if b then higher else lower) bits
side-values v true f lower higher bits d = grind (arith, common_steps, with_bit, with_bit-same, with_bit-other)
side-values v false f lower higher bits d = grind (arith, common_steps, with_bit, with_bit-same, with_bit-other)

-- where there is no room for one side, there is none for the whole
pub side-spent : (s : StoreData) (v : ℕ) (b : Bool) (f lower higher : Bits → ℕ) → IsLawfulStore s
    → AreDivided v f lower higher → IsSpentFor s (if b then higher else lower) → IsSpentFor s f
side-spent s v b f lower higher lawful d spent = record {
  full = spent.full;
  absent = λ id l same.
      let ordered : IsOrderedFrom v (tree_at s.trees id) = ordered-from (tree_at s.trees id) v f
      (lawful.canonical.ordered id l) (lawful.canonical.reduced id l) same d.from in
      let there = side-there s (tree_at s.trees id) v b lawful (id, l, refl) ordered in
      let at : Stands s there.0 = there.1 in
      spent.absent at.0 at.1 (λ bits.
      rw at.2 (there.2 bits ∙ same (with_bit bits v b) ∙ side-values v b f lower higher bits d));
}

-- where there is no room for an ordered reduced tree, there is none for a tree of its values
pub tree-spent : (s : StoreData) (t : Tree) (f : Bits → ℕ) → IsLawfulStore s → IsOrderedTree t → IsReducedTree t
    → HasValues t f → HasNoRoom s t → IsSpentFor s f
tree-spent s t f lawful o r is room = record {
  full = room.full;
  absent = λ id l same. room.absent id l (one-tree (tree_at s.trees id) t (lawful.canonical.ordered id l)
      (lawful.canonical.reduced id l) o r (λ bits. same bits ∙ sym (is.values bits)));
}

-- where there is no room for the fork of the sides, there is none for the whole
pub fork-spent : (s : StoreData) (v low high : ℕ) (f lower higher : Bits → ℕ) → IsLawfulStore s
    → low < length s.trees → high < length s.trees → low ≢ high → AreDivided v f lower higher
    → HasValues (tree_at s.trees low) lower → HasValues (tree_at s.trees high) higher
    → HasNoRoom s (Fork v (tree_at s.trees low) (tree_at s.trees high)) → IsSpentFor s f
fork-spent s v low high f lower higher lawful ll lh ne d is_low is_high room =
    let l : Tree = tree_at s.trees low in
    let h : Tree = tree_at s.trees high in
    let apart : l ≢ h = λ e. ne (lawful.canonical.once low high ll lh e) in
    tree-spent s (Fork v l h) f lawful (
      omega arith,
      made-ordered s low (suc v) lower lawful ll is_low d.lower_from,
      made-ordered s high (suc v) higher lawful lh is_high d.higher_from,
    )
    (apart, lawful.canonical.reduced low ll, lawful.canonical.reduced high lh)
    (joined-values v f lower higher l h (Fork v l h) d is_low is_high (inr (apart, refl))) room

-- where there is no room for a side of a fork, there is none for the fork
pub no-room-above : (s : StoreData) (v : ℕ) (l h : Tree) → IsLawfulStore s → HasNoRoom s l ⊎ HasNoRoom s h
    → HasNoRoom s (Fork v l h)
no-room-above s v l h lawful room = record {
  full = elim room [ inl low ↦ low.full | inr high ↦ high.full ];
  absent = λ id lt e.
      let sides : Stands s l × Stands s h = lawful.closed v l h (id, lt, e) in
      elim room [
        | inl low ↦ low.absent sides.0.0 sides.0.1 sides.0.2
        | inr high ↦ high.absent sides.1.0 sides.1.1 sides.1.2
      ];
}
