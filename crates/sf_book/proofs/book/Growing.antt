-- An unfolding grows where the step of an outstanding piece takes its place, and the book stays its fringe.
use Rattle.sf_book.proofs.Common.{◌≡◌, ℕ, zero, suc, ◌+◌, Bool, false, List, [], ◌∷◌, map, sum_by, refl, sym, ap, ◌∙◌, subst, arith, inl, inr, get_or, map-append, Contains-append_cases, All-append, All-from_recursion, All-filter, All-map, All-nil, All-cons, sum_by-cons, sum_by-append, sum_by-IsPermutation, All-permutation, Contains, IsPermutation, Insn, PieceData, WorkData, IsExecutionOne, OutstandingData, RegionData, BookData, IsLawfulBook, fresh, MayCommit, without, sum_by-map, bit, Unfolding, Outstanding, Region, Emptied, Fork, top_of, IsPieceOf, IsUnfolding, outstanding_in, emptied_in, regions_in, forks_in, IsRegionOf, IsFringe}
use Rattle.sf_book.proofs.book.Kept.{Replaces, committed}
use Rattle.sf_book.proofs.Lists.{sum_by-map_same, sum_by-without}
use Rattle.sf_book.proofs.NameLists.{weighed, permuted, is-name, own-name, contained}
use Rattle.sf_book.proofs.Trees.{pieces-one}

-- an unfolding in which another one took the place of the outstanding piece of a name
pub record HasGrown (stack : List (List Insn)) (u w : Unfolding) (n : List Bool) : Type 0 where
  tree : Unfolding
  unfolds : IsUnfolding stack tree
  same : top_of tree ≡ top_of u
  outstanding : (f : List Bool → ℕ) → sum_by f (outstanding_in tree) + f n
      ≡ sum_by f (outstanding_in u) + sum_by f (outstanding_in w)
  regions : (f : List Bool → ℕ) → sum_by f (regions_in tree) ≡ sum_by f (regions_in u) + sum_by f (regions_in w)
  emptied : (f : List Bool → ℕ) → sum_by f (emptied_in tree) ≡ sum_by f (emptied_in u) + sum_by f (emptied_in w)
  forks : forks_in tree ≡ forks_in u + forks_in w

-- an unfolding begins with a piece of the stack
top-is : (stack : List (List Insn)) (u : Unfolding) → IsUnfolding stack u → IsPieceOf stack (top_of u)
top-is stack (Outstanding p) h = h
top-is stack (Region p n a) h = h.0
top-is stack (Emptied p) h = h.0
top-is stack (Fork p f t) h = h.0

module _ (one : IsExecutionOne) (stack : List (List Insn)) where
  pub grow : (u w : Unfolding) (n : List Bool) → Contains (outstanding_in u) n → IsUnfolding stack u
      → IsUnfolding stack w
      → (top_of w).name ≡ n → HasGrown stack u w n
  grow (Region p m a) w n c h k e = absurd (omega (arith, c.1))
  grow (Emptied p) w n c h k e = absurd (omega (arith, c.1))
  grow (Outstanding p) w n c h k e =
      let named : p.name ≡ n = only p.name n c in
      record {
        tree = w;
        unfolds = k;
        same = pieces-one one stack (top_of w) p (top-is stack w k) h (e ∙ sym named);
        outstanding = λ f. omega (arith, sum_by-cons f p.name [], ap f named);
        regions = λ f. omega arith;
        emptied = λ f. omega arith;
        forks = omega arith;
      }
    where
      only : (m n : List Bool) → Contains (m ∷ []) n → m ≡ n
      only m n (zero, l, e) = e
      only m n (suc i, l, e) = absurd (omega arith)
  grow (Fork p f t) w n c h k e = elim (Contains-append_cases (outstanding_in f) (outstanding_in t) n c) [
    | inl x ↦
        let g = grow f w n x h.2 k e in
        record {
          tree = Fork p g.tree t;
          unfolds = (h.0, rw g.same h.1, g.unfolds, h.3);
          same = refl;
          outstanding = λ z. let a = g.outstanding z in rw (sum_by-append, sum_by-append) (omega arith);
          regions = λ z. let a = g.regions z in rw (sum_by-append, sum_by-append) (omega arith);
          emptied = λ z. let a = g.emptied z in rw (sum_by-append, sum_by-append) (omega arith);
          forks = let a = g.forks in omega arith;
        }
    | inr x ↦
        let g = grow t w n x h.3 k e in
        record {
          tree = Fork p f g.tree;
          unfolds = (h.0, rw g.same h.1, h.2, g.unfolds);
          same = refl;
          outstanding = λ z. let a = g.outstanding z in rw (sum_by-append, sum_by-append) (omega arith);
          regions = λ z. let a = g.regions z in rw (sum_by-append, sum_by-append) (omega arith);
          emptied = λ z. let a = g.emptied z in rw (sum_by-append, sum_by-append) (omega arith);
          forks = let a = g.forks in omega arith;
        }
  ]

-- ---- the book

-- the name of a work that may be committed is outstanding in the tree
is-outstanding : (b : BookData) (id : ℕ) (w : WorkData) → IsLawfulBook b → MayCommit b id w → (h : IsFringe b)
    → Contains (outstanding_in h.tree) w.piece.name
is-outstanding b id w l m h =
    let n : List Bool = w.piece.name in
    let f : List Bool → ℕ = λ k. bit (is-name n k) in
    let one : f m.under_id.piece.name ≡ 1 = ap f (sym m.same_name) ∙ ap bit (own-name n) in
    let out = sum_by-without (λ e. f e.piece.name) b.outstanding id m.under_id l.ids m.there in
    let names = sum_by-map f (λ (e : OutstandingData). e.piece.name) b.outstanding in
    let same = weighed h.outstanding f in
    contained n (outstanding_in h.tree) (omega arith)

-- an outstanding piece that the rules reach
abbrev IsReachedIn : List (List Insn) → OutstandingData → Type 0
IsReachedIn stack e = IsPieceOf stack e.piece

pub commit_fringe : IsExecutionOne → (b : BookData) (next id : ℕ) (w : WorkData) (u : Unfolding)
    (es : List OutstandingData) (rs : List RegionData) (ns : List (List Bool)) (splits : ℕ) → IsLawfulBook b
    → MayCommit b id w → IsFringe b → Replaces b.stack w.piece next u es rs ns splits
    → IsFringe (committed b id es rs ns splits)
commit_fringe one b next id w u es rs ns splits l m h r =
    let name : OutstandingData → List Bool = λ e. e.piece.name in
    let whole : RegionData → List Bool = λ r. r.piece.name in
    let left = without id b.outstanding in
    let g = grow one b.stack h.tree u w.piece.name (is-outstanding b id w l m h) h.unfolds r.unfolds
    (ap (λ (q : PieceData). q.name) r.shape.0) in
    record {
      tree = g.tree;
      unfolds = g.unfolds;
      first = ap (λ (q : PieceData). q.name) g.same ∙ h.first;
      outstanding = permuted (λ z.
          let same : z m.under_id.piece.name ≡ z w.piece.name = ap z (sym m.same_name) in
          let out = sum_by-without (λ e. z e.piece.name) b.outstanding id m.under_id l.ids m.there in
          let now = g.outstanding z in
          let old = weighed h.outstanding z in
          let new = ap (sum_by z) r.shape.1 in
          let a = sum_by-map z name left in
          let c = sum_by-map z name b.outstanding in
          let x = sum_by-append z (map name left) (map name es) in
          rw map-append (omega arith));
      regions = permuted (λ z.
          let now = g.regions z in
          let old = weighed h.regions z in
          let new = ap (sum_by z) r.shape.2 in
          let x = sum_by-append z (map whole b.regions) (map whole rs) in
          rw map-append (omega arith));
      emptied = permuted (λ z.
          omega (arith, g.emptied z, weighed h.emptied z, ap (sum_by z) r.shape.3, sum_by-append z b.emptied ns));
      splits = let old = h.splits in let now = g.forks in let new = r.shape.4 in omega arith;
      reached = All-append (IsReachedIn b.stack) left es (All-filter _ (IsReachedIn b.stack) b.outstanding h.reached)
          (All-from_recursion (IsReachedIn b.stack) es r.reached);
      settled = All-append (IsRegionOf b.stack) b.regions rs h.settled
          (All-from_recursion (IsRegionOf b.stack) rs r.settled);
    }

pub fringe-fresh : (stack : List (List Insn)) (r : PieceData) (budget : ℕ) → IsPieceOf stack r → r.name ≡ []
    → IsFringe (fresh stack r budget)
fringe-fresh stack r budget p e = record {
  tree = Outstanding r;
  unfolds = p;
  first = e;
  outstanding = permuted (λ f. refl);
  regions = permuted (λ f. refl);
  emptied = permuted (λ f. refl);
  splits = refl;
  reached = All-cons (IsReachedIn stack) (record { id = 0; piece = r; leased = false }) [] p
      (All-nil (IsReachedIn stack));
  settled = All-nil (IsRegionOf stack);
}

pub fringe-marks : (b : BookData) (g : OutstandingData → OutstandingData)
    → ((e : OutstandingData) → (g e).piece ≡ e.piece) → IsFringe b
    → IsFringe (record b { outstanding = map g b.outstanding })
fringe-marks b g pieces h = record {
  tree = h.tree;
  unfolds = h.unfolds;
  first = h.first;
  outstanding = permuted (λ f.
      let name : OutstandingData → List Bool = λ e. e.piece.name in
      sum_by-map f name (map g b.outstanding)
      ∙ sum_by-map_same (λ e. f e.piece.name) g (λ e. ap (λ (p : PieceData). f p.name) (pieces e)) b.outstanding
      ∙ sym (sum_by-map f name b.outstanding) ∙ weighed h.outstanding f);
  regions = h.regions;
  emptied = h.emptied;
  splits = h.splits;
  reached = All-map (IsReachedIn b.stack) g b.outstanding
      (λ k d less. subst (IsPieceOf b.stack) (sym (pieces (get_or b.outstanding k d))) (h.reached k d less));
  settled = h.settled;
}

pub fringe-permuted : (b : BookData) (rs : List RegionData) → IsPermutation b.regions rs → IsFringe b
    → IsFringe (record b { regions = rs })
fringe-permuted b rs p h = record {
  tree = h.tree;
  unfolds = h.unfolds;
  first = h.first;
  outstanding = h.outstanding;
  regions = permuted (λ f.
      let name : RegionData → List Bool = λ r. r.piece.name in
      sum_by-map f name rs ∙ sum_by-IsPermutation (λ r. f r.piece.name) b.regions rs p
      ∙ sym (sum_by-map f name b.regions) ∙ weighed h.regions f);
  emptied = h.emptied;
  splits = h.splits;
  reached = h.reached;
  settled = All-permutation (IsRegionOf b.stack) b.regions rs p h.settled;
}
