-- A lawful book without memberless pieces has at most one piece or region for each feasible trace, and with nothing
-- outstanding its regions are the feasible traces.
use Rattle.std.proofs.Common.{◌≡◌, ℕ, ◌+◌, ◌*◌, ◌<◌, ◌≤◌, Bool, true, false, List, [], ◌∷◌, ◌++◌, length, map, get_or, Some, refl, sym, ◌∙◌, ap, subst, arith, ◌⊎◌, inl, inr, append-nil}
use Rattle.std.specs.Prelude.{Contains, ◌↔◌}
use Rattle.sf_book.specs.Common.{All, sum_by, slice_get, option_map, Input, IsInput, Insn, IsLawfulStack, trace_of, AreFeasibleTraces, feasible_traces, is_member, is_prefix}
use Rattle.std.proofs.lemmas.List.{length-map}
use Rattle.std.proofs.lemmas.List.Elements.{All-head, All-tail}
use Rattle.std.proofs.lemmas.List.Folds.{fold_stays}
use Rattle.std.proofs.lemmas.List.Sums.{sum_by-cons, sum_by-le, get_or-le-sum_by}
use Rattle.std.proofs.lemmas.Option.{slice_get_within, get_or_from_slice_get, slice_get-map, slice_get_cases}
use Rattle.sf_run.specs.laws.RouteLaws.{one_whole}
use Rattle.sf_run.specs.laws.TraceLaws.{trace_is_whole_route}
use Rattle.sf_run.specs.laws.FeasibleLaws.{one_order, feasible_are}
use Rattle.sf_book.specs.Books.{OutstandingData, RegionData, BookData, IsOutstanding, IsRightRegion, IsLawfulBook, IsSettled, members_of}
use Rattle.sf_book.specs.Exact.{HasMember, HasMembers, IsWorkedOff}
use Rattle.sf_book.specs.laws.PartitionLaws.{some_there}
use Rattle.sf_book.specs.PrefixCounts.{bit, prefix_bit}
use Rattle.sf_book.specs.laws.NameOrderLaws.{strictly_in_order}

-- ---- sums over rows and columns

module _ {B : Type 0} where
  sum_of_both : (f g h : B → ℕ) → ((y : B) → h y ≡ f y + g y) → (ys : List B) → sum_by h ys ≡ sum_by f ys + sum_by g ys
  sum_of_both f g h each [] = refl
  sum_of_both f g h each (y ∷ ys) =
      omega (arith, sum_of_both f g h each ys, each y, sum_by-cons h y ys, sum_by-cons f y ys, sum_by-cons g y ys)

  at_least_one_each : (f : B → ℕ) (ys : List B) → All (λ y. 1 ≤ f y) ys → length ys ≤ sum_by f ys
  at_least_one_each f [] each = omega arith
  at_least_one_each f (y ∷ ys) each =
      let rest = at_least_one_each f ys (All-tail (λ y. 1 ≤ f y) y ys each) in
      let here : 1 ≤ f y = All-head (λ y. 1 ≤ f y) y ys each in
      let a = sum_by-cons f y ys in
      omega arith

-- the sum over a table is the same by its rows and by its columns
sum_of_sums : {A B : Type 0} (h : A → B → ℕ) (xs : List A) (ys : List B)
    → sum_by (λ x. sum_by (λ y. h x y) ys) xs ≡ sum_by (λ y. sum_by (λ x. h x y) xs) ys
sum_of_sums h [] ys = sym (fold_stays (λ s y. s + 0) 0 (λ y. refl) ys)
sum_of_sums h (x ∷ xs) ys =
    sum_by-cons (λ x. sum_by (λ y. h x y) ys) x xs
    ∙ (ap (λ k. sum_by (λ y. h x y) ys + k) (sum_of_sums h xs ys)
    ∙ sym (sum_of_both (λ y. h x y) (λ y. sum_by (λ x. h x y) xs) (λ y. sum_by (λ z. h z y) (x ∷ xs))
    (λ y. sum_by-cons (λ z. h z y) x xs) ys))

-- ---- at most one piece or region for each feasible trace

-- a name with which a feasible trace begins is hit by it
some_hit : (name : List Bool) (ts : List (List Bool)) (t : List Bool) → Contains ts t → is_prefix name t ≡ true
    → 1 ≤ sum_by (λ t. prefix_bit name t) ts
some_hit name ts t c begins =
    let at : prefix_bit name (get_or ts c.0 t) ≤ sum_by (λ t. prefix_bit name t) ts =
    get_or-le-sum_by (λ t. prefix_bit name t) ts c.0 t c.1 in
    let one : prefix_bit name (get_or ts c.0 t) ≡ 1 = ap (λ k. prefix_bit name k) c.2 ∙ ap bit begins in
    omega arith

outstanding_hit : (b : BookData) (ts : List (List Bool)) → IsLawfulBook b → HasMembers b → AreFeasibleTraces b.stack ts
    → All (λ (e : OutstandingData). 1 ≤ sum_by (λ t. prefix_bit e.piece.name t) ts) b.outstanding
outstanding_hit b ts h m f = λ k d less.
    let e = get_or b.outstanding k d in
    let o : IsOutstanding b.stack e = h.outstanding k d less in
    let some : HasMember e.piece = m.outstanding k d less in
    let begins : is_prefix e.piece.name (trace_of b.stack some.0) ≡ true =
    ap (λ s. is_prefix e.piece.name (trace_of s some.0)) (sym o.of)
    ∙ (sym (o.named.members some.0 some.1) ∙ some.2) in
    some_hit e.piece.name ts (trace_of b.stack some.0)
    ((f.exactly (trace_of b.stack some.0)).1 (some.0, some.1, refl)) begins

regions_hit : (b : BookData) (ts : List (List Bool)) → IsLawfulBook b → HasMembers b → AreFeasibleTraces b.stack ts
    → All (λ (r : RegionData). 1 ≤ sum_by (λ t. prefix_bit r.name t) ts) b.regions
regions_hit b ts h m f = λ k d less.
    let r = get_or b.regions k d in
    let right : IsRightRegion b.stack r = h.regions k d less in
    let some : HasMember r.piece = m.regions k d less in
    some_hit r.name ts (trace_of b.stack some.0) ((f.exactly (trace_of b.stack some.0)).1 (some.0, some.1, refl))
    (sym (right.members some.0 some.1) ∙ some.2)

pub one_for_each_trace : (b : BookData) → IsLawfulBook b → HasMembers b
    → length b.outstanding + length b.regions ≤ length (feasible_traces b.stack)
one_for_each_trace b h m =
    let ts = feasible_traces b.stack in
    let f = feasible_are b.stack in
    let es : length b.outstanding ≤ sum_by (λ (e : OutstandingData).
    sum_by (λ t. prefix_bit e.piece.name t) ts) b.outstanding =
    at_least_one_each (λ (e : OutstandingData). sum_by (λ t. prefix_bit e.piece.name t) ts) b.outstanding
    (outstanding_hit b ts h m f) in
    let rs : length b.regions ≤ sum_by (λ (r : RegionData). sum_by (λ t. prefix_bit r.name t) ts) b.regions =
    at_least_one_each (λ (r : RegionData). sum_by (λ t. prefix_bit r.name t) ts) b.regions (regions_hit b ts h m f) in
    let ec = sum_of_sums (λ (e : OutstandingData) t. prefix_bit e.piece.name t) b.outstanding ts in
    let rc = sum_of_sums (λ (r : RegionData) t. prefix_bit r.name t) b.regions ts in
    let both = sum_of_both (λ t. sum_by (λ (e : OutstandingData). prefix_bit e.piece.name t) b.outstanding)
    (λ t. sum_by (λ (r : RegionData). prefix_bit r.name t) b.regions)
    (λ t. sum_by (λ (e : OutstandingData). prefix_bit e.piece.name t) b.outstanding
    + sum_by (λ (r : RegionData). prefix_bit r.name t) b.regions) (λ t. refl) ts in
    let few = sum_by-le (λ t. sum_by (λ (e : OutstandingData). prefix_bit e.piece.name t) b.outstanding
    + sum_by (λ (r : RegionData). prefix_bit r.name t) b.regions) 1 ts
    (λ k d less. let a = h.apart (get_or ts k d) in omega arith) in
    omega arith

-- ---- with nothing outstanding

prefix_is : (n t : List Bool) → is_prefix n t ≡ true → (more : List Bool) × (n ++ more ≡ t)
prefix_is [] t h = (t, refl)
prefix_is (x ∷ n) [] h = absurd cc
prefix_is (true ∷ n) (true ∷ t) h = let r = prefix_is n t h in (r.0, ap (λ k. true ∷ k) r.1)
prefix_is (true ∷ n) (false ∷ t) h = absurd cc
prefix_is (false ∷ n) (true ∷ t) h = absurd cc
prefix_is (false ∷ n) (false ∷ t) h = let r = prefix_is n t h in (r.0, ap (λ k. false ∷ k) r.1)

-- the name of a region is the trace of each member
pub member_trace : (stack : List (List Insn)) (r : RegionData) (d : Input) → IsLawfulStack stack → IsRightRegion stack r
    → IsInput d → is_member r.piece d ≡ true → r.name ≡ trace_of stack d
member_trace stack r d lawful right is m =
    let on = prefix_is r.name (trace_of stack d) (sym (right.members d is) ∙ m) in
    (one_whole _ r.name (trace_of stack d) on.0 [] right.route (trace_is_whole_route stack d lawful)
    (on.1 ∙ sym (append-nil (trace_of stack d)))).0

contains_map : (f : RegionData → List Bool) (rs : List RegionData) (i : ℕ) (r : RegionData) (n : List Bool)
    → slice_get rs i ≡ Some r → f r ≡ n → Contains (map f rs) n
contains_map f rs i r n at is =
    let there : slice_get (map f rs) i ≡ Some n = slice_get-map f rs i ∙ ap (option_map f) at ∙ ap (λ k. Some k) is in
    (i, slice_get_within (map f rs) i n there, get_or_from_slice_get (map f rs) i n n there)

map_contains : (f : RegionData → List Bool) (rs : List RegionData) (n : List Bool) → Contains (map f rs) n → (i : ℕ)
    × (r : RegionData) × (slice_get rs i ≡ Some r) × (f r ≡ n)
map_contains f rs n c = elim (slice_get_cases rs c.0).1 [
  | inl x ↦
      let there = slice_get-map f rs c.0 ∙ ap (option_map f) x.2 in
      (c.0, x.0, x.2, sym (get_or_from_slice_get (map f rs) c.0 (f x.0) n there) ∙ c.2)
  | inr past ↦ absurd (omega (arith, past.0, c.1, length-map rs f))
]

pub at_place : (P : RegionData → Type 0) (rs : List RegionData) (i : ℕ) (r : RegionData) → All P rs
    → slice_get rs i ≡ Some r → P r
at_place P rs i r all at = subst P (get_or_from_slice_get rs i r r at) (all i r (slice_get_within rs i r at))

-- each name of a region is a feasible trace
name_feasible : (b : BookData) (ts : List (List Bool)) → IsLawfulBook b → HasMembers b → AreFeasibleTraces b.stack ts
    → (n : List Bool) → Contains (map (λ (r : RegionData). r.name) b.regions) n → Contains ts n
name_feasible b ts h m f n c =
    let r = map_contains (λ (r : RegionData). r.name) b.regions n c in
    let right : IsRightRegion b.stack r.1 = at_place (IsRightRegion b.stack) b.regions r.0 r.1 h.regions r.2 in
    let some : HasMember r.1.piece = at_place (λ (r : RegionData). HasMember r.piece) b.regions r.0 r.1 m.regions r.2 in
    (f.exactly n).1 (some.0, some.1, sym (member_trace b.stack r.1 some.0 h.stack right some.1 some.2) ∙ r.3)

-- with nothing outstanding, each feasible trace is the name of a region
trace_named : (b : BookData) (ts : List (List Bool)) → IsLawfulBook b → AreFeasibleTraces b.stack ts
    → b.outstanding ≡ []
    → (n : List Bool) → Contains ts n → Contains (map (λ (r : RegionData). r.name) b.regions) n
trace_named b ts h f none n c =
    let d = (f.exactly n).0 c in
    let one : members_of [] b.regions d.0 ≡ 1 =
    subst (λ (es : List OutstandingData). members_of es b.regions d.0 ≡ 1) none (h.one d.0 d.1) in
    let r = some_there (λ (r : RegionData). is_member r.piece d.0) b.regions (omega arith) in
    let right : IsRightRegion b.stack r.1 = at_place (IsRightRegion b.stack) b.regions r.0 r.1 h.regions r.2 in
    contains_map (λ (r : RegionData). r.name) b.regions r.0 r.1 n r.2
    (member_trace b.stack r.1 d.0 h.stack right d.1 r.3 ∙ d.2)

pub worked_off : (b : BookData) → IsSettled b → HasMembers b → b.outstanding ≡ []
    → IsWorkedOff b (feasible_traces b.stack)
worked_off b s m none =
    let ts = feasible_traces b.stack in
    let f = feasible_are b.stack in
    let h = s.lawful in
    let names = map (λ (r : RegionData). r.name) b.regions in
    let few : (t : List Bool) → sum_by (λ (r : RegionData). prefix_bit r.name t) b.regions ≤ 1 = λ t. let a =
    h.apart t in omega arith in
    let order = strictly_in_order b.regions s.order few in
    let same : names ≡ ts = one_order names ts order f.order (name_feasible b ts h m f) (trace_named b ts h f none) in
    let len : length b.regions ≡ length ts = sym (length-map b.regions (λ (r : RegionData). r.name)) ∙ ap length same in
    let pieces = h.pieces in
    let committed = h.committed in
    let left : length b.outstanding ≡ 0 = ap length none in
    let emptied : length b.emptied ≡ 0 = ap length m.emptied in
    record { names = same; outstanding = none; emptied = m.emptied; commits = omega arith }

-- while something is outstanding the commits are too few
pub left_unworked : (b : BookData) → IsLawfulBook b → HasMembers b → 0 < length b.outstanding
    → b.commits + 1 < 2 * length (feasible_traces b.stack)
left_unworked b h m some = omega (arith, one_for_each_trace b h m, h.pieces, h.committed, ap length m.emptied)

-- an ended exploration has nothing outstanding exactly where the budget is enough
pub enough : (b : BookData) → IsSettled b → HasMembers b → (b.outstanding ≡ []) ⊎ (b.commits ≡ b.budget)
    → (b.outstanding ≡ []) ↔ (2 * length (feasible_traces b.stack) ≤ b.budget + 1)
enough b s m end = (to, from end)
  where
    to : b.outstanding ≡ [] → 2 * length (feasible_traces b.stack) ≤ b.budget + 1
    to none = let w = worked_off b s m none in let c = w.commits in let within = s.lawful.within in omega arith

    from : (b.outstanding ≡ []) ⊎ (b.commits ≡ b.budget) → 2 * length (feasible_traces b.stack) ≤ b.budget + 1
        → b.outstanding ≡ []
    from (inl none) room = none
    from (inr spent) room = by b.outstanding refl
      where
        by : (es : List OutstandingData) → b.outstanding ≡ es → b.outstanding ≡ []
        by [] is = is
        by (e ∷ es) is =
            let len : length b.outstanding ≡ length es + 1 = ap length is ∙ omega arith in
            let few = left_unworked b s.lawful m (omega arith) in
            absurd (omega arith)
