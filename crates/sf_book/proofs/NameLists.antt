-- Lists of names: two have the same names, in whatever order, if they weigh the same whatever the names weigh.
use Rattle.sf_book.proofs.Common.{◌≡◌, ℕ, ◌≤◌, Bool, true, List, [], ◌∷◌, sum_by, refl, sym, ap, subst, ◌∙◌, arith, Contains, remove, IsPermutation, bool_cmp, is_eq, eq_by_cmp_equiv, slice_cmp, sum_by-cons, sum_by-IsPermutation, IsPermutation-refl, IsPermutation-sym, IsPermutation-trans, IsPermutation-cons, IsPermutation-remove, get_or_from_slice_get, slice_get_within, names_exact, names_total, some_there, bit}

-- each element stands as often in both lists: whatever the elements weigh, both lists have the same weight
abbrev pub HaveSameElements : {X : Type 0} → List X → List X → Type 0
HaveSameElements {X} xs ys = (weight : X → ℕ) → sum_by weight xs ≡ sum_by weight ys

pub weighed : {X : Type 0} {xs ys : List X} → IsPermutation xs ys → HaveSameElements xs ys
weighed {X} {xs} {ys} p f = sym (sum_by-IsPermutation f xs ys p)

-- a list that weighs nothing is empty
pub weighs-none : {A : Type 0} (xs : List A) → HaveSameElements [] xs → xs ≡ []
weighs-none [] h = refl
weighs-none (x ∷ xs) h = let w = h (λ y. 1) in let all = sum_by-cons (λ y. 1) x xs in absurd (omega arith)

-- whether a name is this one
pub is-name : List Bool → List Bool → Bool
is-name n m = is_eq (slice_cmp bool_cmp m n)

pub own-name : (n : List Bool) → is-name n n ≡ true
unfolding is-name
own-name n = (eq_by_cmp_equiv names_total).refl n

pub the-name : (n m : List Bool) → is-name n m ≡ true → m ≡ n
unfolding is-name
the-name n m h = names_exact m n h

pub contained : (n : List Bool) (ns : List (List Bool)) → 1 ≤ sum_by (λ k. bit (is-name n k)) ns → Contains ns n
contained n ns some =
    let found = some_there (λ k. is-name n k) ns some in (
      found.0,
      slice_get_within ns found.0 found.1 found.2,
      get_or_from_slice_get ns found.0 found.1 n found.2 ∙ the-name n found.1 found.3,
    )

permuted-names : (ms ns : List (List Bool)) → HaveSameElements ms ns → IsPermutation ms ns
permuted-names [] ns h = subst (λ ks. IsPermutation [] ks) (sym (weighs-none ns h)) (IsPermutation-refl [])
permuted-names (m ∷ ms) ns h =
    let w = h (λ k. bit (is-name m k)) in
    let first = sum_by-cons (λ k. bit (is-name m k)) m ms in
    let one : bit (is-name m m) ≡ 1 = ap bit (own-name m) in
    let c = contained m ns (omega arith) in
    let less = remove ns c.0 in
    let out : IsPermutation ns (m ∷ less) = IsPermutation-remove ns c.0 m c.1 (sym c.2) in
    let rest : HaveSameElements ms less = λ f.
    omega (arith, h f, sum_by-cons f m ms, sum_by-cons f m less, sum_by-IsPermutation f ns (m ∷ less) out) in
    IsPermutation-trans (m ∷ ms) (m ∷ less) ns (IsPermutation-cons m ms less (permuted-names ms less rest))
    (IsPermutation-sym ns (m ∷ less) out)

pub permuted : {ms ns : List (List Bool)} → HaveSameElements ms ns → IsPermutation ms ns
permuted {ms} {ns} h = permuted-names ms ns h
