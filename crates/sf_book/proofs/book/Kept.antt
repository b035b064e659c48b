-- What a book keeps through its calls.
use Rattle.sf_book.proofs.Common.{common_steps, ◌≡◌, ℕ, length-append, ◌+◌, ◌*◌, ◌<◌, ◌≤◌, ◌==◌, Bool, true, false, List, [], ◌∷◌, ◌++◌, length, map, get_or, refl, sym, ◌∙◌, ap, subst, arith, append_assoc, Result, Ok, Err, IfErr, All, AllByRecursion, slice_get, IsPermutation, get_or_push, length-map, All-append, All-filter, All-map, All-from_recursion, find_at, sum_by-IsPermutation, All-permutation, length_permutation, sum_by-append, slice_get-get_or, same_Some, Input, IsInput, Insn, IsLawfulStack, IsPlain, IsPlainPiece, PieceData, WorkData, is_member, is_prefix, IsTrulyNamed, IsRightSplit, IsRoot, OutstandingData, RegionData, BookData, IsOutstanding, IsRightRegion, IsNoBeginning, HasRisingIds, IsLawfulBook, IsKeptBook, fresh, members_of, count_beginnings, without, MayCommit, Refuses, bit, prefix_bit, Unfolding, IsUnfolding, IsPieceOf, IsRegionOf, top_of, outstanding_in, regions_in, emptied_in, forks_in, Fault, Memory, all_at, no_second, prefix-refl}
use Rattle.std.specs.List.{sum_by}
use Rattle.sf_book.proofs.Lists.{sum_by-without, HasRisingIds-filter, HasRisingIds-append, HasRisingIds-map, sum_by-map_same, ones}
use Rattle.sf_book.proofs.book.Names.{prefix-append, same_members}

-- what comes in the place of a piece, as an unfolding, in the lists of a book, and as a number of splits
pub record Replaces (stack : List (List Insn)) (p : PieceData) (next : ℕ) (tree : Unfolding)
    (es : List OutstandingData) (rs : List RegionData) (ns : List (List Bool)) (splits : ℕ) : Type 0 where
  pub outstanding : AllByRecursion (IsOutstanding stack) es
  pub regions : AllByRecursion (IsRightRegion stack) rs
  pub emptied : AllByRecursion (IsNoBeginning stack) ns
  pub one : (d : Input) → IsInput d → members_of es rs d ≡ bit (is_member p d)
  pub apart : (t : List Bool) → count_beginnings es rs ns t ≤ prefix_bit p.name t
  pub counts : (length es ≡ 2 * splits) × (splits + length rs + length ns ≡ 1)
  pub rising : HasRisingIds es
  pub new : AllByRecursion (λ e. (next ≤ e.id) × (e.id < next + 2 * splits)) es
  pub unfolds : IsUnfolding stack tree
  pub shape : (top_of tree ≡ p) × (outstanding_in tree ≡ map (λ (e : OutstandingData). e.piece.name) es)
      × (regions_in tree ≡ map (λ (r : RegionData). r.piece.name) rs) × (emptied_in tree ≡ ns)
      × (forks_in tree ≡ splits)
  pub reached : AllByRecursion (λ (e : OutstandingData). IsPieceOf stack e.piece) es
  pub plain : IsPlain stack → AllByRecursion (λ (e : OutstandingData). IsPlainPiece e.piece) es
      × AllByRecursion (λ (r : RegionData). IsPlainPiece r.piece) rs × (ns ≡ [])
  pub settled : AllByRecursion (IsRegionOf stack) rs

-- the book once these came in the place of the piece under the id
abbrev pub committed : BookData → ℕ → List OutstandingData → List RegionData → List (List Bool) → ℕ → BookData
committed b id es rs ns splits = record b {
  outstanding = without id b.outstanding ++ es;
  regions = b.regions ++ rs;
  emptied = b.emptied ++ ns;
  splits = b.splits + splits;
  commits = b.commits + 1;
}

pub commit_kept : (b : BookData) (next id : ℕ) (w : WorkData) (u : Unfolding) (es : List OutstandingData)
    (rs : List RegionData) (ns : List (List Bool)) (splits : ℕ) → IsKeptBook b next → MayCommit b id w
    → b.commits < b.budget → IsTrulyNamed w.piece → Replaces b.stack w.piece next u es rs ns splits
    → IsKeptBook (committed b id es rs ns splits) (next + 2 * splits)
commit_kept b next id w u es rs ns splits k m room named r =
    let h = k.lawful in
    let few = k.few in
    let two = r.counts.0 in
    let single = r.counts.1 in
    let new = All-from_recursion (λ (e : OutstandingData). (next ≤ e.id) × (e.id < next + 2 * splits)) es r.new in
    let left = without id b.outstanding in
    let o = all_at (IsOutstanding b.stack) b.outstanding id m.under_id h.outstanding m.there in
    let low : All (λ e. e.id < next) left = All-filter _ (λ e. e.id < next) b.outstanding k.below in
    let out = λ (f : OutstandingData → ℕ). sum_by-without f b.outstanding id m.under_id h.ids m.there in
    let less : length left + 1 ≡ length b.outstanding = omega (arith, out (λ e. 1), ones left, ones b.outstanding) in
    let more_es = length-append left es in
    let more_rs = length-append b.regions rs in
    let more_ns = length-append b.emptied ns in
    let pieces = h.pieces in
    let commits = h.committed in
    record {
      lawful = record {
        stack = h.stack;
        outstanding = All-append (IsOutstanding b.stack) left es
            (All-filter _ (IsOutstanding b.stack) b.outstanding h.outstanding)
            (All-from_recursion (IsOutstanding b.stack) es r.outstanding);
        regions = All-append (IsRightRegion b.stack) b.regions rs h.regions
            (All-from_recursion (IsRightRegion b.stack) rs r.regions);
        one = λ d i.
            let e : OutstandingData → ℕ = λ x. bit (is_member x.piece d) in
            let g : RegionData → ℕ = λ x. bit (is_member x.piece d) in
            let same : e m.under_id ≡ bit (is_member w.piece d) =
            ap bit (same_members m.under_id.piece w.piece o.named named (o.of ∙ sym m.same_stack) (sym m.same_name) d i)
            in
            omega (arith, out e, sum_by-append e left es, sum_by-append g b.regions rs, h.one d i, r.one d i);
        emptied = All-append (IsNoBeginning b.stack) b.emptied ns h.emptied
            (All-from_recursion (IsNoBeginning b.stack) ns r.emptied);
        apart = λ l.
            let e : OutstandingData → ℕ = λ x. prefix_bit x.piece.name l in
            let g : RegionData → ℕ = λ x. prefix_bit x.name l in
            let n : List Bool → ℕ = λ x. prefix_bit x l in
            let same : e m.under_id ≡ prefix_bit w.piece.name l = ap n (sym m.same_name) in
            let gone = out e in
            let a = sum_by-append e left es in
            omega (arith, sum_by-append g b.regions rs, sum_by-append n b.emptied ns, h.apart l, r.apart l);
        pieces = omega arith;
        committed = omega arith;
        within = omega arith;
        ids = HasRisingIds-append next left es (HasRisingIds-filter _ b.outstanding h.ids) low r.rising
            (λ q d l. (new q d l).0);
      };
      below = All-append (λ e. e.id < next + 2 * splits) left es
          (λ q d l. let x = low q d l in omega arith) (λ q d l. (new q d l).1);
      few = omega arith;
    }

-- a book stays lawful where only leases change
pub kept_marks : (b : BookData) (next : ℕ) (g : OutstandingData → OutstandingData)
    → ((e : OutstandingData) → (g e).id ≡ e.id) → ((e : OutstandingData) → (g e).piece ≡ e.piece)
    → IsKeptBook b next → IsKeptBook (record b { outstanding = map g b.outstanding }) next
kept_marks b next g ids pieces k =
    let h = k.lawful in
    let len : length (map g b.outstanding) ≡ length b.outstanding = length-map b.outstanding g in
    record {
      lawful = record {
        stack = h.stack;
        outstanding = All-map (IsOutstanding b.stack) g b.outstanding (λ q d l.
            let o = h.outstanding q d l in
            record {
              of = rw (pieces (get_or b.outstanding q d)) o.of;
              named = rw (pieces (get_or b.outstanding q d)) o.named;
            });
        regions = h.regions;
        one = search (arith, sum_by-map_same);
        emptied = h.emptied;
        apart = λ l.
            let m : OutstandingData → ℕ = λ x. prefix_bit x.piece.name l in
            let same : sum_by m (map g b.outstanding) ≡ sum_by m b.outstanding =
            sum_by-map_same m g (λ e. ap (λ p. prefix_bit p.name l) (pieces e)) b.outstanding in
            let before = h.apart l in
            omega arith;
        pieces = let before = h.pieces in omega arith;
        committed = h.committed;
        within = h.within;
        ids = HasRisingIds-map g ids b.outstanding h.ids;
      };
      below = All-map (λ e. e.id < next) g b.outstanding (λ q d l. let o = k.below q d l in
          rw (ids (get_or b.outstanding q d)) o);
      few = k.few;
    }

-- a book stays lawful with its regions in another order
pub permuted_lawful : (b : BookData) (rs : List RegionData) → IsPermutation b.regions rs → IsLawfulBook b
    → IsLawfulBook (record b { regions = rs })
permuted_lawful b rs p h =
    let len : length rs ≡ length b.regions = length_permutation b.regions rs p in
    record {
      stack = h.stack;
      outstanding = h.outstanding;
      regions = All-permutation (IsRightRegion b.stack) b.regions rs p h.regions;
      one = search (arith, sum_by-IsPermutation);
      emptied = h.emptied;
      apart = λ l.
          let g : RegionData → ℕ = λ x. prefix_bit x.name l in
          let same : sum_by g rs ≡ sum_by g b.regions = sum_by-IsPermutation g b.regions rs p in
          let before = h.apart l in
          omega arith;
      pieces = let before = h.pieces in omega arith;
      committed = let before = h.committed in omega arith;
      within = h.within;
      ids = h.ids;
    }

pub kept_fresh : (stack : List (List Insn)) (r : PieceData) (budget : ℕ) → IsLawfulStack stack → IsRoot stack r
    → IsKeptBook (fresh stack r budget) 1
kept_fresh stack r budget lawful h = grind (arith, common_steps)

-- no outstanding piece has a longer name that begins with the one under the id
no_child : (b : BookData) (id : ℕ) (w : WorkData) (n : List Bool) → IsLawfulBook b → MayCommit b id w
    → is_prefix w.piece.name n ≡ true → (w.piece.name ≡ n → ⊥) → All (λ e. e.piece.name ≡ n → ⊥) b.outstanding
no_child b id w n h m begins other = λ j e lj same.
    let few : sum_by (λ (x : OutstandingData). prefix_bit x.piece.name n) b.outstanding ≤ 1 =
    omega (arith, h.apart n) in
    let x = get_or b.outstanding j e in
    let there = sym (find_at (λ (e : OutstandingData). e.id == id) b.outstanding) ∙ m.there in
    let at = slice_get-get_or b.outstanding j e lj in
    let i = no_second (λ (x : OutstandingData). is_prefix x.piece.name n) b.outstanding few _ j m.under_id x there at
    (ap (λ k. is_prefix k n) (sym m.same_name) ∙ begins) (ap (λ k. is_prefix k n) same ∙ prefix-refl n) in
    let is : m.under_id ≡ x = same_Some m.under_id x (sym there ∙ ap (λ k. slice_get b.outstanding k) i ∙ at) in
    other (m.same_name ∙ ap (λ (x : OutstandingData). x.piece.name) is ∙ same)

longer : (xs on : List Bool) (b : Bool) → xs ≡ xs ++ on ++ b ∷ [] → ⊥
longer xs on b h = grind (arith, common_steps, length-append)

-- the children's names are new
pub child_names : (b : BookData) (id : ℕ) (w : WorkData) (f t : PieceData) → IsLawfulBook b → MayCommit b id w
    → IsRightSplit w.piece f t → All (λ e. (e.piece.name ≡ f.name → ⊥) × (e.piece.name ≡ t.name → ⊥)) b.outstanding
child_names b id w f t h m s = λ j e lj. (
  no_child b id w f.name h m (rw (s.false_name, append_assoc) (prefix-append w.piece.name (s.on ++ false ∷ [])))
      (λ k. longer w.piece.name s.on false (k ∙ s.false_name)) j e lj,
  no_child b id w t.name h m (rw (s.true_name, append_assoc) (prefix-append w.piece.name (s.on ++ true ∷ [])))
      (λ k. longer w.piece.name s.on true (k ∙ s.true_name)) j e lj,
)

-- the children's names differ
pub children_differ : (p f t : PieceData) → IsRightSplit p f t → f.name ≡ t.name → ⊥
children_differ p f t s e =
    let stem : List Bool = p.name ++ s.on in
    let same : stem ++ false ∷ [] ≡ stem ++ true ∷ [] = sym s.false_name ∙ e ∙ s.true_name in
    let clash : false ≡ true = sym (get_or_push stem false false (length stem) refl)
    ∙ ap (λ (n : List Bool). get_or n (length stem) false) same
    ∙ get_or_push stem true false (length stem) refl in absurd cc

-- refused memory is a right reason to refuse what may be committed
pub memory_refuses : {A : Type 0} (r : Result A Fault) (b c : BookData) (id : ℕ) (w : WorkData) → MayCommit b id w
    → b.commits < b.budget
    → IfErr r (λ f. (f ≡ Memory) × (c ≡ b)) → IfErr r (λ f. Refuses b id w f × (c ≡ b))
memory_refuses (Ok x) b c id w m room h = tt
memory_refuses (Err f) b c id w m room h = (subst (λ (g : Fault). Refuses b id w g) (sym h.0) (m, room), h.1)
