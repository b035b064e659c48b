-- Regions in name order, no two of whose names begin one list, are strictly in order.
use Rattle.std.proofs.Common.{◌≡◌, suc, ◌+◌, ◌≤◌, Bool, false, List, [], ◌∷◌, map, refl, sym, ◌∙◌, ap, arith}
use Rattle.sf_book.specs.Common.{sum_by, IsStrictlySortedBy, bool_cmp, is_eq, is_lt, ordering_reverse, Ordering, Less, Equal, Greater, slice_cmp, AreInNameOrder}
use Rattle.std.proofs.lemmas.List.Sums.{sum_by-cons}
use Rattle.sf_run.specs.laws.FeasibleLaws.{names_total, names_exact, before_all}
use Rattle.sf_book.specs.Books.{RegionData, IsInNameOrder}
use Rattle.sf_book.specs.laws.PartitionLaws.{prefix-refl}
use Rattle.sf_book.specs.PrefixCounts.{bit, prefix_bit}

-- how two names compare
abbrev cmp : List Bool → List Bool → Ordering
cmp m n = slice_cmp bool_cmp m n

-- of two names of which the second is not before the first, and that differ, the first is before the second
before : (m n : List Bool) → is_lt (cmp n m) ≡ false → (m ≡ n → ⊥) → cmp m n ≡ Less
before m n low other = by (cmp m n) (cmp n m) refl (names_total.antisymm n m) low
  where
    by : (o p : Ordering) → cmp m n ≡ o → p ≡ ordering_reverse (cmp m n) → is_lt p ≡ false → cmp m n ≡ Less
    by Less p e r low = e
    by Equal p e r low = absurd (other (names_exact m n (ap is_eq e)))
    by Greater p e r low = let k = r ∙ ap ordering_reverse e in let l = sym (ap is_lt k) ∙ low in absurd cc

-- names in order of which no list begins with two are strictly in order
pub strictly_in_order : (rs : List RegionData) → IsInNameOrder rs
    → ((t : List Bool) → sum_by (λ (r : RegionData). prefix_bit r.name t) rs ≤ 1)
    → AreInNameOrder (map (λ (r : RegionData). r.name) rs)
unfolding IsStrictlySortedBy
strictly_in_order [] order few = tt
strictly_in_order (r ∷ []) order few = (tt, tt)
strictly_in_order (r ∷ q ∷ rs) order few =
    let all = λ (t : List Bool). sum_by-cons (λ (r : RegionData). prefix_bit r.name t) r (q ∷ rs) in
    let more = λ (t : List Bool). sum_by-cons (λ (r : RegionData). prefix_bit r.name t) q rs in
    let rest = strictly_in_order (q ∷ rs)
    (λ k d low less. let o = order (suc k) d (omega arith) (omega arith) in
    let e : suc k + 1 ≡ suc (k + 1) = omega arith in rw e at o)
    (λ t. let a = all t in let f = few t in omega arith) in
    let other : r.name ≡ q.name → ⊥ = λ e.
    let a = all r.name in
    let b = more r.name in
    let f = few r.name in
    let one : prefix_bit r.name r.name ≡ 1 = ap bit (prefix-refl r.name) in
    let two : prefix_bit q.name r.name ≡ 1 = ap (λ k. prefix_bit k r.name) (sym e) ∙ one in
    omega arith in
    let first : cmp r.name q.name ≡ Less = before r.name q.name (order 0 r (omega arith) (omega arith)) other in
    ((first, before_all r.name q.name (map (λ (r : RegionData). r.name) rs) first rest.0), rest)
