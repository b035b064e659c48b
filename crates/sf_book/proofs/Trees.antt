-- An execution tree that is explored to the end is one.
use Rattle.sf_book.proofs.Common.{◌≡◌, ℕ, Bool, List, [], ◌∷◌, ◌++◌, refl, sym, ap, ◌∙◌, subst, arith, sum_by, map, zero, suc, ◌≤◌, Some, None, sum_by-cons, same_Some, All, AllByRecursion, slice_get, IsStrictlySortedBy, length-map, All-head, All-tail, bool_cmp, slice_cmp, Less, AreInNameOrder, before_one_way, Insn, PieceData, StepData, Split, Settled, Empty, HasStep, IsExecutionOne, RegionData, OutstandingData, BookData, IsSettled, strictly_in_order, some_there, sum_by-map, at_place, bit, prefix_bit, Unfolding, Outstanding, Region, Emptied, Fork, IsFringe, IsRegionOf, HaveOneOutcome, top_of, IsPieceOf, IsUnfolding, outstanding_in, emptied_in, regions_in, forks_in}
use Rattle.sf_book.proofs.Lists.{ones}
use Rattle.sf_book.proofs.NameLists.{HaveSameElements, weighed, permuted, weighs-none, is-name, own-name, the-name}

none-both : {A : Type 0} (xs ys : List A) → xs ++ ys ≡ [] → (xs ≡ []) × (ys ≡ [])
none-both [] ys e = (refl, e)
none-both (x ∷ xs) ys e = let clash : x ∷ (xs ++ ys) ≡ [] = e in absurd cc

module _ (one : IsExecutionOne) (stack : List (List Insn)) where
  -- pieces of one stack with one name are one, and so is their step
  pub pieces-one : (p q : PieceData) → IsPieceOf stack p → IsPieceOf stack q → p.name ≡ q.name → p ≡ q
  pieces-one p q a b e = one.piece p q a.reached b.reached (a.of ∙ sym b.of) e

  steps-one : (p q : PieceData) (s t : StepData) (m n : List Bool) → IsPieceOf stack p → IsPieceOf stack q
      → p.name ≡ q.name → HasStep p s m → HasStep q t n → (s ≡ t) × (m ≡ n)
  steps-one p q s t m n a b e h k =
      one.step q s t m n (one.pools q b.reached)
      (subst (λ (z : PieceData). HasStep z s m) (pieces-one p q a b e) h) k

  -- a tree in which nothing is outstanding is one
  trees-one : (u v : Unfolding) → IsUnfolding stack u → IsUnfolding stack v → (top_of u).name ≡ (top_of v).name
      → outstanding_in u ≡ [] → outstanding_in v ≡ [] → u ≡ v
  trees-one (Outstanding p) v h k e x y = let clash : p.name ∷ [] ≡ [] = x in absurd cc
  trees-one (Region p n a) (Outstanding q) h k e x y = let clash : q.name ∷ [] ≡ [] = y in absurd cc
  trees-one (Emptied p) (Outstanding q) h k e x y = let clash : q.name ∷ [] ≡ [] = y in absurd cc
  trees-one (Fork p f t) (Outstanding q) h k e x y = let clash : q.name ∷ [] ≡ [] = y in absurd cc
  trees-one (Region p n a) (Region q m b) h k e x y =
      let piece = pieces-one p q h.0 k.0 e in
      let s = steps-one p q (Settled a) (Settled b) n m h.0 k.0 e h.1 k.1 in
      let step : Settled a ≡ Settled b = s.0 in
      let name : n ≡ m = s.1 in cc
  trees-one (Region p n a) (Emptied q) h k e x y =
      let s = (steps-one p q (Settled a) Empty n q.name h.0 k.0 e h.1 k.1).0 in absurd cc
  trees-one (Region p n a) (Fork q g t) h k e x y =
      let s = (steps-one p q (Settled a) (Split (top_of g) (top_of t)) n q.name h.0 k.0 e h.1 k.1).0 in absurd cc
  trees-one (Emptied p) (Region q m b) h k e x y =
      let s = (steps-one p q Empty (Settled b) p.name m h.0 k.0 e h.1 k.1).0 in absurd cc
  trees-one (Emptied p) (Emptied q) h k e x y = ap Emptied (pieces-one p q h.0 k.0 e)
  trees-one (Emptied p) (Fork q g t) h k e x y =
      let s = (steps-one p q Empty (Split (top_of g) (top_of t)) p.name q.name h.0 k.0 e h.1 k.1).0 in absurd cc
  trees-one (Fork p f t) (Region q m b) h k e x y =
      let s = (steps-one p q (Split (top_of f) (top_of t)) (Settled b) p.name m h.0 k.0 e h.1 k.1).0 in absurd cc
  trees-one (Fork p f t) (Emptied q) h k e x y =
      let s = (steps-one p q (Split (top_of f) (top_of t)) Empty p.name q.name h.0 k.0 e h.1 k.1).0 in absurd cc
  trees-one (Fork p f t) (Fork q g s) h k e x y =
      let both = (steps-one p q (Split (top_of f) (top_of t)) (Split (top_of g) (top_of s)) p.name q.name h.0 k.0 e h.1
      k.1).0 in
      let fs : top_of f ≡ top_of g = cc in
      let ts : top_of t ≡ top_of s = cc in
      let piece = pieces-one p q h.0 k.0 e in
      let none = none-both (outstanding_in f) (outstanding_in t) x in
      let none' = none-both (outstanding_in g) (outstanding_in s) y in
      let left = trees-one f g h.2 k.2 (ap (λ (z : PieceData). z.name) fs) none.0 none'.0 in
      let right = trees-one t s h.3 k.3 (ap (λ (z : PieceData). z.name) ts) none.1 none'.1 in cc

-- ---- the books

-- a region of the other list with a piece of this name
record HasName (rs : List RegionData) (n : List Bool) : Type 0 where
  pub place : ℕ
  pub region : RegionData
  pub there : slice_get rs place ≡ Some region
  pub named : region.piece.name ≡ n

abbrev piece-names : List RegionData → List (List Bool)
piece-names rs = map (λ (r : RegionData). r.piece.name) rs

has-name : (r : RegionData) (rs qs : List RegionData) → HaveSameElements (piece-names (r ∷ rs)) (piece-names qs)
    → HasName qs r.piece.name
has-name r rs qs h =
    let n : List Bool = r.piece.name in
    let w = h (λ m. bit (is-name n m)) in
    let first = sum_by-cons (λ m. bit (is-name n m)) n (piece-names rs) in
    let one : bit (is-name n n) ≡ 1 = ap bit (own-name n) in
    let there = sum_by-map (λ m. bit (is-name n m)) (λ (q : RegionData). q.piece.name) qs in
    let found = some_there (λ (q : RegionData). is-name n q.piece.name) qs (omega arith) in
    record { place = found.0; region = found.1; there = found.2; named = the-name n found.1.piece.name found.3 }

-- what comes later in a list that is in order is later
later : (t : List Bool) (rs : List RegionData) (i : ℕ) (r : RegionData)
    → AllByRecursion (λ u. slice_cmp bool_cmp t u ≡ Less) (map (λ (r : RegionData). r.name) rs)
    → slice_get rs i ≡ Some r → slice_cmp bool_cmp t r.name ≡ Less
later t [] i r h at = let clash : None ≡ Some r = at in absurd cc
later t (x ∷ rs) zero r h at = subst (λ (y : RegionData). slice_cmp bool_cmp t y.name ≡ Less) (same_Some x r at) h.0
later t (x ∷ rs) (suc i) r h at = later t rs i r h.1 at

-- both lists weigh the same without their first elements, where these are one
without-first : (r q : RegionData) (rs qs : List RegionData) → r.piece.name ≡ q.piece.name
    → HaveSameElements (piece-names (r ∷ rs)) (piece-names (q ∷ qs))
    → HaveSameElements (piece-names rs) (piece-names qs)
without-first r q rs qs e h f =
    omega (arith, h f, sum_by-cons f r.piece.name (piece-names rs), sum_by-cons f q.piece.name (piece-names qs), ap f e)

module _ (one : IsExecutionOne) (stack : List (List Insn)) where
  region-one : (r q : RegionData) → IsRegionOf stack r → IsRegionOf stack q → r.piece.name ≡ q.piece.name → r ≡ q
  region-one r q h k e =
      let s = steps-one one stack r.piece q.piece (Settled r.answer) (Settled q.answer) r.name q.name h.0 k.0 e h.1 k.1
      in
      let settled : Settled r.answer ≡ Settled q.answer = s.0 in
      let answer : r.answer ≡ q.answer = cc in
      let piece = pieces-one one stack r.piece q.piece h.0 k.0 e in
      λ i. record { piece = piece i; name = s.1 i; answer = answer i }

  -- the first regions of both lists are of one name
  first-one : (r q : RegionData) (rs qs : List RegionData) → All (IsRegionOf stack) (r ∷ rs)
      → All (IsRegionOf stack) (q ∷ qs) → AreInNameOrder (map (λ (r : RegionData). r.name) (r ∷ rs))
      → AreInNameOrder (map (λ (r : RegionData). r.name) (q ∷ qs))
      → HasName (q ∷ qs) r.piece.name → HasName (r ∷ rs) q.piece.name → r.piece.name ≡ q.piece.name
  unfolding IsStrictlySortedBy
  first-one r q rs qs h k o p x y = on x.place x.there y.place y.there
    where
      on : (i : ℕ) → slice_get (q ∷ qs) i ≡ Some x.region → (j : ℕ) → slice_get (r ∷ rs) j ≡ Some y.region
          → r.piece.name ≡ q.piece.name
      on zero a j b = sym x.named ∙ ap (λ (z : RegionData). z.piece.name) (sym (same_Some q x.region a))
      on (suc i) a zero b = ap (λ (z : RegionData). z.piece.name) (same_Some r y.region b) ∙ y.named
      on (suc i) a (suc j) b =
          let rx : r.name ≡ x.region.name = ap (λ (z : RegionData). z.name) (region-one r x.region
          (All-head (IsRegionOf stack) r rs h) (at_place (IsRegionOf stack) (q ∷ qs) (suc i) x.region k a)
          (sym x.named)) in
          let qy : q.name ≡ y.region.name = ap (λ (z : RegionData). z.name) (region-one q y.region
          (All-head (IsRegionOf stack) q qs k) (at_place (IsRegionOf stack) (r ∷ rs) (suc j) y.region h b)
          (sym y.named)) in
          let one : slice_cmp bool_cmp q.name r.name ≡ Less = rw rx (later q.name qs i x.region p.0 a) in
          let two : slice_cmp bool_cmp r.name q.name ≡ Less = rw qy (later r.name rs j y.region o.0 b) in
          absurd (before_one_way q.name r.name one two)

  regions-one : (rs qs : List RegionData) → All (IsRegionOf stack) rs → All (IsRegionOf stack) qs
      → AreInNameOrder (map (λ (r : RegionData). r.name) rs) → AreInNameOrder (map (λ (r : RegionData). r.name) qs)
      → HaveSameElements (piece-names rs) (piece-names qs) → rs ≡ qs
  unfolding IsStrictlySortedBy
  regions-one [] [] h k o p same = refl
  regions-one [] (q ∷ qs) h k o p same =
      let none : q.piece.name ∷ piece-names qs ≡ [] = weighs-none (piece-names (q ∷ qs)) same in absurd cc
  regions-one (r ∷ rs) [] h k o p same =
      let none : r.piece.name ∷ piece-names rs ≡ [] =
      weighs-none (piece-names (r ∷ rs)) (λ f. sym (same f)) in absurd cc
  regions-one (r ∷ rs) (q ∷ qs) h k o p same =
      let e = first-one r q rs qs h k o p (has-name r rs (q ∷ qs) same)
      (has-name q qs (r ∷ rs) (λ f. sym (same f))) in
      let first = region-one r q (All-head (IsRegionOf stack) r rs h) (All-head (IsRegionOf stack) q qs k) e in
      let rest = regions-one rs qs (All-tail (IsRegionOf stack) r rs h) (All-tail (IsRegionOf stack) q qs k) o.1 p.1
      (without-first r q rs qs e same) in
      ap (λ x. x ∷ rs) first ∙ ap (λ xs. q ∷ xs) rest

same-through : {X : Type 0} (xs us vs ys : List X) → HaveSameElements xs us → us ≡ vs → HaveSameElements ys vs
    → HaveSameElements xs ys
same-through xs us vs ys h e k f = h f ∙ ap (λ zs. sum_by f zs) e ∙ sym (k f)

-- nothing is outstanding in the tree of a book in which nothing is
none-in : (b : BookData) (h : IsFringe b) → b.outstanding ≡ [] → outstanding_in h.tree ≡ []
none-in b h none = weighs-none (outstanding_in h.tree)
    (λ f. ap (λ es. sum_by f (map (λ (e : OutstandingData). e.piece.name) es)) (sym none) ∙ weighed h.outstanding f)

pub results-one : IsExecutionOne → (b c : BookData) → IsSettled b → IsSettled c → IsFringe b → IsFringe c
    → b.stack ≡ c.stack → b.outstanding ≡ [] → c.outstanding ≡ [] → HaveOneOutcome b c
results-one one b c s t h k e x y =
    let trees = trees-one one b.stack h.tree k.tree h.unfolds
    (subst (λ (z : List (List Insn)). IsUnfolding z k.tree) (sym e) k.unfolds) (h.first ∙ sym k.first)
    (none-in b h x) (none-in c k y) in
    let few : (b : BookData) → IsSettled b → (n : List Bool)
    → sum_by (λ (r : RegionData). prefix_bit r.name n) b.regions ≤ 1
    = λ b s n. let a = s.lawful.apart n in omega arith in
    let emptied = same-through b.emptied (emptied_in h.tree) (emptied_in k.tree) c.emptied (weighed h.emptied)
    (ap emptied_in trees) (weighed k.emptied) in
    let pieces = same-through (piece-names b.regions) (regions_in h.tree) (regions_in k.tree) (piece-names c.regions)
    (weighed h.regions) (ap regions_in trees) (weighed k.regions) in
    let splits : b.splits ≡ c.splits = h.splits ∙ ap forks_in trees ∙ sym k.splits in
    let rs = pieces (λ n. 1) in
    let es = emptied (λ n. 1) in
    record {
      regions = regions-one one b.stack b.regions c.regions h.settled
          (subst (λ (z : List (List Insn)). All (IsRegionOf z) c.regions) (sym e) k.settled)
          (strictly_in_order b.regions s.order (few b s)) (strictly_in_order c.regions t.order (few c t)) pieces;
      emptied = permuted emptied;
      splits = splits;
      commits = commits-one b c s t splits rs es;
    }
  where
    commits-one : (b c : BookData) → IsSettled b → IsSettled c → b.splits ≡ c.splits
        → sum_by (λ n. 1) (piece-names b.regions) ≡ sum_by (λ n. 1) (piece-names c.regions)
        → sum_by (λ n. 1) b.emptied ≡ sum_by (λ n. 1) c.emptied → b.commits ≡ c.commits
    commits-one b c s t e rs es =
        let bc = s.lawful.committed in
        let cs = t.lawful.committed in
        let lb = length-map b.regions (λ (r : RegionData). r.piece.name) in
        let lc = length-map c.regions (λ (r : RegionData). r.piece.name) in
        omega (arith, ones (piece-names b.regions), ones (piece-names c.regions), ones b.emptied, ones c.emptied)
