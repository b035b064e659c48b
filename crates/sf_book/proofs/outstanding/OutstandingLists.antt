-- One outstanding piece more, and one less.
use Rattle.sf_book.proofs.Common.{common_steps, ◌≡◌, ◌≢◌, ℕ, ◌<◌, ◌==◌, Bool, true, false, not, cond, List, [], ◌∷◌, ◌++◌, map, get_or, Option, None, Some, refl, sym, ◌∙◌, ap, subst, arith, ⊎_elim, All, AllByRecursion, slice_get, IsStrictlySortedBy, option_map, is_eq, nat_cmp, match_ordering, Ordering, Less, Equal, Greater, is_at, insert_entry, keys_of, remove_entry, cases_eq, nat_tests, sorted_head, sorted_tail, map-map, map-append, All-head, All-tail, All-nil, All-cons, PieceData, OutstandingData, outstanding_at, with_lease_at, without, all_at, name_cmp, piece_at, lease_state_of, outstanding_of, outstanding_list, AreMatchingMaps, LeaseState, filter-append}
use Rattle.std.proofs.Common.{append-nil}
use Rattle.sf_book.proofs.Lists.{without-above}
use Rattle.sf_book.proofs.MapLemmas.{Ids, Names, changed_maps, entry_at_is, id_no, id_same, id_yes, mark_by_name, name_yes, num_no, num_yes, own, same_bool, same_name, same_view, some_inj, tests_as}
use Rattle.sf_book.proofs.outstanding.OutstandingLeases.{none_some, true_false}

nat_at : (i j : ℕ) → j < i → nat_cmp i j ≡ Greater
nat_at i j h = grind (arith, nat_tests)

pub insert_last : (ids : Ids) (i : ℕ) (p : PieceData) → All (λ e. e.0 < i) ids
    → insert_entry nat_cmp ids i p ≡ ids ++ (i, p) ∷ []
insert_last [] i p h = refl
insert_last (e ∷ ids) i p h =
    let P = λ (e : ℕ × PieceData). e.0 < i in
    rw (nat_at i e.0 (All-head P e ids h)) (ap (λ l. e ∷ l) (insert_last ids i p (All-tail P e ids h)))

-- no piece under an id above all
pub absent_id : (ids : Ids) (i : ℕ) → All (λ e. e.0 < i) ids → piece_at ids i ≡ None
absent_id [] i h = refl
absent_id (e ∷ ids) i h =
    let P = λ (e : ℕ × PieceData). e.0 < i in
    let low : e.0 < i = All-head P e ids h in
    rw (id_no i e.0 (λ k. let e = k in omega arith)) (absent_id ids i (All-tail P e ids h))

-- nothing stands under a name that no piece has
pub absent_name : (ids : Ids) (names : Names) (p : PieceData) → AreMatchingMaps ids names
    → All (λ e. e.piece.name ≢ p.name) (outstanding_list ids names) → lease_state_of names p ≡ None
absent_name ids names p h apart = go (lease_state_of names p) refl
  where
    go : (o : Option LeaseState) → lease_state_of names p ≡ o → lease_state_of names p ≡ None
    go None is = is
    go (Some m) is =
        let r = h.known p m is in
        absurd (all_at (λ e. e.piece.name ≢ p.name) (outstanding_list ids names) m.id
        (outstanding_of names (m.id, r.0)) apart
        (entry_at_is ids names m.id ∙ ap (option_map (λ q. outstanding_of names (m.id, q))) r.1) r.2)

insert_step : (i : ℕ) (p : PieceData) (e : ℕ × PieceData) (ids new : Ids) (o : Ordering) → nat_cmp i e.0 ≡ o
    → cond (is_eq o) (Some e.1) (piece_at ids i) ≡ None
    → (piece_at ids i ≡ None → remove_entry (is_at (nat_cmp i)) new ≡ ids)
    → remove_entry (is_at (nat_cmp i)) (match_ordering o ((i, p) ∷ e ∷ ids) ((e.0, p) ∷ ids) (e ∷ new)) ≡ e ∷ ids
insert_step i p e ids new Less is a h = rw (id_yes i i refl) refl
insert_step i p e ids new Equal is a h = absurd (cc)
insert_step i p e ids new Greater is a h = rw is (ap (λ l. e ∷ l) (h a))

-- what was just put in can be taken out again
pub removed_insert : (i : ℕ) (p : PieceData) (ids : Ids) → piece_at ids i ≡ None
    → remove_entry (is_at (nat_cmp i)) (insert_entry nat_cmp ids i p) ≡ ids
removed_insert i p [] h = rw (id_yes i i refl) refl
removed_insert i p (e ∷ ids) h = insert_step i p e ids (insert_entry nat_cmp ids i p) (nat_cmp i e.0) refl h
    (removed_insert i p ids)

-- ---- after an insertion

pub record IsAdded (ids : Ids) (names : Names) (i : ℕ) (p : PieceData) (on : Bool) (ids' : Ids)
    (names' : Names) : Type 0 where
  pub at_id : (j : ℕ) → piece_at ids' j ≡ cond (is_at (nat_cmp i) j) (Some p) (piece_at ids j)
  pub at_name : (q : PieceData) → lease_state_of names' q ≡ cond (is_at (name_cmp p) q)
      (Some (record { id = i; leased = on }))
      (lease_state_of names q)
  pub no_id : piece_at ids i ≡ None
  pub no_name : lease_state_of names p ≡ None
  pub rising : IsStrictlySortedBy nat_cmp (keys_of ids')
  pub sorted : IsStrictlySortedBy name_cmp (keys_of names')

cond_none : {A : Type 0} (b : Bool) (x : A) (o : Option A) → cond b None o ≡ Some x → (b ≡ false) × (o ≡ Some x)
cond_none true x o h = absurd (cc)
cond_none false x o h = (refl, h)

pick_no : {A : Type 0} (b : Bool) (a : Option A) (o : Option A) → (b ≡ true → ⊥) → cond b a o ≡ o
pick_no true a o f = absurd (f refl)
pick_no false a o f = refl

added_tests : (ids : Ids) (names : Names) (i : ℕ) (p : PieceData) (on : Bool) (ids' : Ids) (names' : Names)
    → AreMatchingMaps ids names → IsAdded ids names i p on ids' names' → (j : ℕ) (q : PieceData)
    → piece_at ids j ≡ Some q → is_at (name_cmp p) q ≡ is_at (nat_cmp i) j
added_tests ids names i p on ids' names' h a j q at =
    grind (arith, common_steps, id_same, mark_by_name, same_bool, same_name, none_some)

pub added_maps : (ids : Ids) (names : Names) (i : ℕ) (p : PieceData) (on : Bool) (ids' : Ids) (names' : Names)
    → AreMatchingMaps ids names → IsAdded ids names i p on ids' names' → AreMatchingMaps ids' names'
added_maps ids names i p on ids' names' h a =
    changed_maps ids names i p (Some (record { id = i; leased = on })) ids' names' h
    (added_tests ids names i p on ids' names' h a) (λ w e. sym (ap (λ (x : LeaseState). x.id) (some_inj _ w e)))
    a.at_id a.at_name a.rising a.sorted

pub added_view : (ids : Ids) (names : Names) (i : ℕ) (p : PieceData) (on : Bool) (ids' : Ids) (names' : Names)
    → AreMatchingMaps ids names → IsAdded ids names i p on ids' names' → ids' ≡ ids ++ (i, p) ∷ []
    → outstanding_list ids' names' ≡ outstanding_list ids names ++ record { id = i; piece = p; leased = on } ∷ []
added_view ids names i p on ids' names' h a is =
    let w : LeaseState = record { id = i; leased = on } in
    let old : outstanding_list ids names' ≡ outstanding_list ids names = same_view ids names names' (λ k d l.
    let q = (get_or ids k d).1 in
    let n = h.named (get_or ids k d).0 q (own ids h.rising k d l) in
    a.at_name q ∙ pick_no (is_at (name_cmp p) q) (Some w) (lease_state_of names q)
    (λ t. none_some n.0 (lease_state_of names q) (sym (mark_by_name names p q (same_name p q t)) ∙ a.no_name) n.1)) in
    let new : lease_state_of names' p ≡ Some w = rw (a.at_name p, name_yes p p refl) refl in
    rw (is, map-append, new, old) refl

-- ---- after a removal

pub record IsTaken (ids : Ids) (names : Names) (i : ℕ) (p : PieceData) (ids' : Ids) (names' : Names) : Type 0 where
  pub there : piece_at ids i ≡ Some p
  pub at_id : (j : ℕ) → piece_at ids' j ≡ cond (is_at (nat_cmp i) j) None (piece_at ids j)
  pub at_name : (q : PieceData) → lease_state_of names' q ≡ cond (is_at (name_cmp p) q) None (lease_state_of names q)
  pub rising : IsStrictlySortedBy nat_cmp (keys_of ids')
  pub sorted : IsStrictlySortedBy name_cmp (keys_of names')

pub taken_maps : (ids : Ids) (names : Names) (i : ℕ) (p : PieceData) (ids' : Ids) (names' : Names)
    → AreMatchingMaps ids names
    → IsTaken ids names i p ids' names' → AreMatchingMaps ids' names'
taken_maps ids names i p ids' names' h a = grind (arith, common_steps, changed_maps, tests_as, none_some)

rising_above : (i : ℕ) (ids : Ids) (names : Names) → AllByRecursion (λ k. nat_cmp i k ≡ Less) (keys_of ids)
    → AllByRecursion (λ f. i < f.id) (outstanding_list ids names)
rising_above i [] names h = tt
rising_above i (e ∷ ids) names h = (below i e.0 h.0, rising_above i ids names h.1)
  where
    below : (i j : ℕ) → nat_cmp i j ≡ Less → i < j
    below i j h = grind (arith, nat_tests)

removed_view : (ids : Ids) (names : Names) (i : ℕ) → IsStrictlySortedBy nat_cmp (keys_of ids)
    → outstanding_list (remove_entry (is_at (nat_cmp i)) ids) names ≡ without i (outstanding_list ids names)
removed_view [] names i h = refl
removed_view (e ∷ ids) names i h =
    ⊎_elim
    (λ (k : i ≡ e.0). rw (num_yes e.0 i (sym k), id_yes i e.0 k)
    (sym (without-above i (outstanding_list ids names)
    (rising_above i ids names (subst (λ x. AllByRecursion (λ y. nat_cmp x y ≡ Less) (keys_of ids)) (sym k)
    (sorted_head nat_cmp e.0 (keys_of ids) h))))))
    (λ (k : i ≡ e.0 → ⊥). rw (num_no e.0 i (λ x. k (sym x)), id_no i e.0 k)
    (ap (λ l. outstanding_of names e ∷ l) (removed_view ids names i (sorted_tail nat_cmp e.0 (keys_of ids) h))))
    (cases_eq i e.0)

pub taken_view : (ids : Ids) (names : Names) (i : ℕ) (p : PieceData) (ids' : Ids) (names' : Names)
    → AreMatchingMaps ids names
    → IsTaken ids names i p ids' names' → ids' ≡ remove_entry (is_at (nat_cmp i)) ids
    → outstanding_list ids' names' ≡ without i (outstanding_list ids names)
taken_view ids names i p ids' names' h a is =
    same_view ids' names names' (λ k d l.
    let j = (get_or ids' k d).0 in
    let q = (get_or ids' k d).1 in
    let m = cond_none (is_at (nat_cmp i) j) q (piece_at ids j) (sym (a.at_id j) ∙ own ids' a.rising k d l) in
    a.at_name q ∙ pick_no (is_at (name_cmp p) q) None (lease_state_of names q)
    (λ t. true_false (is_at (nat_cmp i) j) (sym (tests_as ids names i p h a.there j q m.1) ∙ t) m.0))
    ∙ (ap (λ l. outstanding_list l names) is ∙ removed_view ids names i h.rising)

-- an id that no piece has
none_at : (e : OutstandingData) (es : List OutstandingData) (i : ℕ) → outstanding_at i (e ∷ es) ≡ None
    → ((e.id == i) ≡ false) × (outstanding_at i es ≡ None)
none_at e es i h = grind (arith, common_steps)

pub without_none : (es : List OutstandingData) (i : ℕ) → outstanding_at i es ≡ None → without i es ≡ es
without_none [] i h = refl
without_none (e ∷ es) i h = let k = none_at e es i h in rw k.0 (ap (λ l. e ∷ l) (without_none es i k.1))

pub same_none : (es : List OutstandingData) (i : ℕ) (on : Bool) → outstanding_at i es ≡ None
    → map (with_lease_at i on) es ≡ es
same_none [] i on h = refl
same_none (e ∷ es) i on h = let k = none_at e es i h in rw k.0 (ap (λ l. e ∷ l) (same_none es i on k.1))

-- all ids of the view are below
below_ids : (ids : Ids) (names : Names) (i : ℕ) → All (λ e. e.id < i) (outstanding_list ids names)
    → All (λ e. e.0 < i) ids
below_ids [] names i h = All-nil (λ (e : ℕ × PieceData). e.0 < i)
below_ids (e ∷ ids) names i h =
    All-cons (λ (e : ℕ × PieceData). e.0 < i) e ids
    (All-head (λ (x : OutstandingData). x.id < i) (outstanding_of names e) (outstanding_list ids names) h)
    (below_ids ids names i (All-tail (λ (x : OutstandingData). x.id < i) (outstanding_of names e)
    (outstanding_list ids names) h))

pub is_added : (ids : Ids) (names : Names) (i : ℕ) (p : PieceData) (on : Bool) (ids' : Ids) (names' : Names)
    → AreMatchingMaps ids names
    → All (λ e. e.id < i) (outstanding_list ids names) → All (λ e. e.piece.name ≢ p.name) (outstanding_list ids names)
    → ((j : ℕ) → piece_at ids' j ≡ cond (is_at (nat_cmp i) j) (Some p) (piece_at ids j))
    → ((q : PieceData) → lease_state_of names' q ≡ cond (is_at (name_cmp p) q) (Some (record { id = i; leased = on }))
    (lease_state_of names q))
    → IsStrictlySortedBy nat_cmp (keys_of ids') → IsStrictlySortedBy name_cmp (keys_of names')
    → IsAdded ids names i p on ids' names'
is_added ids names i p on ids' names' h above apart at_id at_name rising sorted =
    search (arith, absent_id, below_ids, absent_name)

-- with one more id, above all others, the ids still rise
pub added_ids : (ids : Ids) (names : Names) (i : ℕ) (p : PieceData) → All (λ e. e.id < i) (outstanding_list ids names)
    → insert_entry nat_cmp ids i p ≡ ids ++ (i, p) ∷ []
added_ids ids names i p h = insert_last ids i p (below_ids ids names i h)

-- what was just put in can be taken out again, and the pieces are as before
pub put_back : (ids : Ids) (names : Names) (i : ℕ) (p : PieceData) → All (λ e. e.id < i) (outstanding_list ids names)
    → remove_entry (is_at (nat_cmp i)) (insert_entry nat_cmp ids i p) ≡ ids
put_back ids names i p h = removed_insert i p ids (absent_id ids i (below_ids ids names i h))

without_append : (i : ℕ) (es fs : List OutstandingData) → without i (es ++ fs) ≡ without i es ++ without i fs
without_append i es fs = filter-append (λ (e : OutstandingData). not (e.id == i)) es fs

pub without_low : (i : ℕ) (es : List OutstandingData) → All (λ e. e.id < i) es → without i es ≡ es
without_low i [] h = refl
without_low i (e ∷ es) h =
    let low : e.id < i = All-head (λ (x : OutstandingData). x.id < i) e es h in
    rw (num_no e.id i (λ k. let e = k in omega arith))
    (ap (λ l. e ∷ l) (without_low i es (All-tail (λ (x : OutstandingData). x.id < i) e es h)))

-- without the id of the last one, the others are left
pub without_last : (es : List OutstandingData) (x : OutstandingData) → All (λ e. e.id < x.id) es
    → without x.id (es ++ x ∷ []) ≡ es
without_last es x h = search (arith, without_append, without_low, num_yes, append-nil)

-- the pieces stand in the order of their ids
pub piece_place : (ids : List (ℕ × PieceData)) (names : List (PieceData × LeaseState)) (i : ℕ) (p : PieceData)
    → slice_get (map (λ (e : ℕ × PieceData). e.1) ids) i ≡ Some p
    → slice_get (map (λ (e : OutstandingData). e.piece) (outstanding_list ids names)) i ≡ Some p
piece_place ids names i p h = rw map-map h
