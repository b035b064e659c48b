-- The outstanding pieces that two maps stand for.
use Rattle.sf_book.proofs.Common.{common_steps, ◌≡◌, ℕ, ◌==◌, Bool, true, false, cond, List, [], ◌∷◌, map, get_or, Option, None, Some, refl, sym, ◌∙◌, ap, subst, arith, ⊎_elim, All, IsStrictlySortedBy, option_map, option_map_or, unwrap_or, bool_cmp, is_eq, nat_cmp, eq_by_cmp, IsEquivalence, eq_by_cmp_equiv, nat_cmp_total, slice_cmp, is_at, lookup, keys_of, set_value, cases_eq, nat_tests, lookup-set_value, keys-set_value, lookup_from_place, IsDistinct-from_sorted, keys_of-map_values, lookup-map_values, map-id, slice_get-get_or, All-head, All-tail, names_exact, PieceData, OutstandingData, outstanding_at, with_lease, with_lease_at, name_cmp, name_total, piece_at, lease_state_of, outstanding_of, outstanding_list, AreMatchingMaps, LeaseState}

abbrev pub Ids : Type 0
Ids = List (ℕ × PieceData)

abbrev pub Names : Type 0
Names = List (PieceData × LeaseState)

-- ---- tests

pub same_bool : (b c : Bool) → (b ≡ true → c ≡ true) → (c ≡ true → b ≡ true) → b ≡ c
same_bool true c f g = sym (f refl)
same_bool false true f g = g refl
same_bool false false f g = refl

pub some_inj : {A : Type 0} (a b : A) → Some a ≡ Some b → a ≡ b
some_inj a b e = ap (λ o. unwrap_or o a) e

id_laws : IsEquivalence (eq_by_cmp nat_cmp)
id_laws = eq_by_cmp_equiv nat_cmp_total

pub name_laws : IsEquivalence (eq_by_cmp name_cmp)
name_laws = eq_by_cmp_equiv name_total

pub id_yes : (i j : ℕ) → i ≡ j → is_at (nat_cmp i) j ≡ true
id_yes i j h = grind (arith, nat_tests)

pub id_no : (i j : ℕ) → (i ≡ j → ⊥) → is_at (nat_cmp i) j ≡ false
id_no i j h = grind (arith, nat_tests)

pub num_yes : (i j : ℕ) → i ≡ j → (i == j) ≡ true
num_yes i j h = grind (arith, nat_tests)

pub num_no : (i j : ℕ) → (i ≡ j → ⊥) → (i == j) ≡ false
num_no i j h = grind (arith, nat_tests)

pub num_same : (i j : ℕ) → (i == j) ≡ true → i ≡ j
num_same i j h = grind (arith, nat_tests)

pub same_name : (p q : PieceData) → is_at (name_cmp p) q ≡ true → p.name ≡ q.name
same_name p q h = names_exact p.name q.name h

pub name_yes : (p q : PieceData) → p.name ≡ q.name → is_at (name_cmp p) q ≡ true
name_yes p q h = ap (λ n. is_eq (slice_cmp bool_cmp p.name n)) (sym h) ∙ name_laws.refl p

-- ---- what stands under an id and a name

pub entry_at_is : (ids : Ids) (names : Names) (i : ℕ) → outstanding_at i (outstanding_list ids names)
    ≡ option_map (λ p. outstanding_of names (i, p)) (piece_at ids i)
entry_at_is [] names i = refl
entry_at_is (e ∷ ids) names i =
    grind (arith, common_steps, ⊎_elim, cases_eq, id_yes, id_no, num_yes, num_no, entry_at_is ids names i)

-- each outstanding piece is the one under its id
pub own : (ids : Ids) → IsStrictlySortedBy nat_cmp (keys_of ids) → All (λ e. piece_at ids e.0 ≡ Some e.1) ids
own ids s = λ k d l. lookup_from_place id_laws ids k (get_or ids k d).0 (get_or ids k d).1
    (IsDistinct-from_sorted nat_cmp (keys_of ids) s) (slice_get-get_or ids k d l)

pub mark_by_name : (names : Names) (p q : PieceData) → p.name ≡ q.name → lease_state_of names p ≡ lease_state_of names q
mark_by_name names p q h = ap (λ n. lookup (λ (k : PieceData). is_eq (slice_cmp bool_cmp n k.name)) names) h

-- of two outstanding pieces, the names are equal where the ids are
pub test_of : (ids : Ids) (names : Names) (i j : ℕ) (p q : PieceData) → AreMatchingMaps ids names
    → piece_at ids i ≡ Some p
    → piece_at ids j ≡ Some q → is_at (name_cmp p) q ≡ (j == i)
test_of ids names i j p q h at_i at_j =
    grind (arith, common_steps, same_bool, some_inj, mark_by_name, same_name, num_yes, num_same, name_yes)

pub id_same : (i j : ℕ) → is_at (nat_cmp i) j ≡ true → i ≡ j
id_same i j h = grind (arith, nat_tests)

-- of two outstanding pieces, the names are equal where the ids are
pub tests_as : (ids : Ids) (names : Names) (i : ℕ) (p : PieceData) → AreMatchingMaps ids names
    → piece_at ids i ≡ Some p → (j : ℕ) (q : PieceData) → piece_at ids j ≡ Some q
    → is_at (name_cmp p) q ≡ is_at (nat_cmp i) j
tests_as ids names i p h at j q k = test_of ids names i j p q h at k ∙ grind (arith, nat_tests)

-- what stands under one id and one name is put in, put in anew or taken out
pub changed_maps : (ids : Ids) (names : Names) (i : ℕ) (p : PieceData) (c : Option LeaseState) (ids' : Ids)
    (names' : Names) → AreMatchingMaps ids names
    → ((j : ℕ) (q : PieceData) → piece_at ids j ≡ Some q → is_at (name_cmp p) q ≡ is_at (nat_cmp i) j)
    → ((w : LeaseState) → c ≡ Some w → w.id ≡ i)
    → ((j : ℕ) → piece_at ids' j ≡ cond (is_at (nat_cmp i) j) (option_map (λ w. p) c) (piece_at ids j))
    → ((q : PieceData) → lease_state_of names' q ≡ cond (is_at (name_cmp p) q) c (lease_state_of names q))
    → IsStrictlySortedBy nat_cmp (keys_of ids') → IsStrictlySortedBy name_cmp (keys_of names')
    → AreMatchingMaps ids' names'
changed_maps ids names i p c ids' names' h test own at_id at_name rising sorted = record {
  rising = rising;
  sorted = sorted;
  named = λ j q at. under_id j q (is_at (nat_cmp i) j) c refl refl (sym (at_id j) ∙ at);
  known = λ q n at. under_name q n (is_at (name_cmp p) q) refl (sym (at_name q) ∙ at);
}
  where
    under_id : (j : ℕ) (q : PieceData) (b : Bool) (o : Option LeaseState) → is_at (nat_cmp i) j ≡ b → c ≡ o
        → cond b (option_map (λ w. p) o) (piece_at ids j) ≡ Some q → (m : LeaseState)
        × (lease_state_of names' q ≡ Some m) × (m.id ≡ j)
    under_id j q true None is e k = absurd cc
    under_id j q true (Some w) is e k =
        (w, at_name q ∙ rw (name_yes p q (ap (λ x. x.name) (some_inj p q k))) e, own w e ∙ id_same i j is)
    under_id j q false o is e k =
        let n = h.named j q k in (n.0, at_name q ∙ rw (test j q k ∙ is) n.1, n.2)

    under_name : (q : PieceData) (n : LeaseState) (b : Bool) → is_at (name_cmp p) q ≡ b
        → cond b c (lease_state_of names q) ≡ Some n → (x : PieceData) × (piece_at ids' n.id ≡ Some x)
        × (x.name ≡ q.name)
    under_name q n true is k = (p, at_id n.id ∙ rw (id_yes i n.id (sym (own n k)), k) refl, same_name p q is)
    under_name q n false is k =
        let r = h.known q n k in
        let same : is_at (name_cmp p) r.0 ≡ is_at (name_cmp p) q =
        ap (λ m. is_eq (slice_cmp bool_cmp p.name m)) r.2 in
        (r.0, at_id n.id ∙ rw (sym (test n.id r.0 r.1) ∙ (same ∙ is)) r.1, r.2)

-- ---- lists

views : (f : OutstandingData → OutstandingData) (ids : Ids) (a b : Names)
    → All (λ e. outstanding_of b e ≡ f (outstanding_of a e)) ids
    → outstanding_list ids b ≡ map f (outstanding_list ids a)
views f [] a b h = refl
views f (e ∷ ids) a b h =
    let P = λ (e : ℕ × PieceData). outstanding_of b e ≡ f (outstanding_of a e) in
    ap (λ x. x ∷ outstanding_list ids b) (All-head P e ids h) ∙ ap (λ l. f (outstanding_of a e) ∷ l)
    (views f ids a b (All-tail P e ids h))

pub same_view : (ids : Ids) (a b : Names) → All (λ e. lease_state_of b e.1 ≡ lease_state_of a e.1) ids
    → outstanding_list ids b ≡ outstanding_list ids a
same_view ids a b h =
    views (λ e. e) ids a b (λ k d l. ap (λ (o : Option LeaseState). record {
      id = (get_or ids k d).0;
      piece = (get_or ids k d).1;
      leased = option_map_or (λ (m : LeaseState). m.leased) o true;
    }) (h k d l))
    ∙ map-id (outstanding_list ids a)

-- ---- leases

abbrev pub marked : Names → PieceData → LeaseState → Bool → Names
marked names p m on = set_value (is_at (name_cmp p)) names (record { id = m.id; leased = on })

marked_mark : (names : Names) (p q : PieceData) (m : LeaseState) (on : Bool) → lease_state_of names p ≡ Some m
    → lease_state_of (marked names p m on) q ≡ cond (is_at (name_cmp p) q) (Some (record { id = m.id; leased = on }))
    (lease_state_of names q)
marked_mark names p q m on h =
    lookup-set_value name_laws (is_at (name_cmp p)) (λ x y t. name_laws.congr p x y t) q
    (record { id = m.id; leased = on }) names (rw h refl)

lease_of : (b : Bool) (w : LeaseState) (o : Option LeaseState)
    → option_map_or (λ (m : LeaseState). m.leased) (cond b (Some w) o) true
    ≡ cond b w.leased (option_map_or (λ (m : LeaseState). m.leased) o true)
lease_of true w o = refl
lease_of false w o = refl

pub marked_view : (ids : Ids) (names : Names) (i : ℕ) (p : PieceData) (m : LeaseState) (on : Bool)
    → AreMatchingMaps ids names
    → piece_at ids i ≡ Some p → lease_state_of names p ≡ Some m
    → outstanding_list ids (marked names p m on) ≡ map (with_lease_at i on) (outstanding_list ids names)
marked_view ids names i p m on h at is =
    views (with_lease_at i on) ids names (marked names p m on) (λ k d l.
    let e = get_or ids k d in
    let t = test_of ids names i e.0 p e.1 h at (own ids h.rising k d l) in
    rw (
      marked_mark names p e.1 m on is,
      t,
      lease_of (e.0 == i) (record { id = m.id; leased = on })
          (lease_state_of names e.1),
    ) refl)

pub leased_maps : (ids : Ids) (names : Names) (i : ℕ) (p : PieceData) (m : LeaseState) (on : Bool)
    → AreMatchingMaps ids names
    → piece_at ids i ≡ Some p → lease_state_of names p ≡ Some m
    → AreMatchingMaps ids (marked names p m on)
leased_maps ids names i p m on h at is =
    let n = h.named i p at in
    let own : m.id ≡ i = ap (λ (x : LeaseState). x.id) (some_inj m n.0 (sym is ∙ n.1)) ∙ n.2 in
    changed_maps ids names i p (Some (record { id = m.id; leased = on })) ids (marked names p m on) h
    (tests_as ids names i p h at) (λ w e. sym (ap (λ (x : LeaseState). x.id) (some_inj _ w e)) ∙ own)
    (λ j. there j (is_at (nat_cmp i) j) refl) (λ q. marked_mark names p q m on is) h.rising
    (search (arith, keys-set_value))
  where
    there : (j : ℕ) (b : Bool) → is_at (nat_cmp i) j ≡ b → piece_at ids j ≡ cond b (Some p) (piece_at ids j)
    there j true t = ap (λ k. piece_at ids k) (sym (id_same i j t)) ∙ at
    there j false t = refl

abbrev off : LeaseState → LeaseState
off m = record { id = m.id; leased = false }

abbrev pub all_off : Names → Names
all_off names = map (λ e. (e.0, off e.1)) names

off_mark : (names : Names) (q : PieceData) → lease_state_of (all_off names) q ≡ option_map off (lease_state_of names q)
off_mark names q = lookup-map_values off (is_at (name_cmp q)) names

from_off : (o : Option LeaseState) (n : LeaseState) → option_map off o ≡ Some n → (m : LeaseState)
    × (o ≡ Some m) × (m.id ≡ n.id)
from_off None n h = absurd (cc)
from_off (Some m) n h = (m, refl, ap (λ x. x.id) (some_inj (off m) n h))

pub recalled_maps : (ids : Ids) (names : Names) → AreMatchingMaps ids names → AreMatchingMaps ids (all_off names)
recalled_maps ids names h = record {
  rising = h.rising;
  sorted = subst (λ ks. IsStrictlySortedBy name_cmp ks) (sym (keys_of-map_values off names)) h.sorted;
  named = λ j q at. let n = h.named j q at in (off n.0, off_mark names q ∙ ap (option_map off) n.1, n.2);
  known = search (arith, from_off, off_mark);
}

pub recalled_view : (ids : Ids) (names : Names) → AreMatchingMaps ids names
    → outstanding_list ids (all_off names) ≡ map (with_lease false) (outstanding_list ids names)
recalled_view ids names h =
    views (with_lease false) ids names (all_off names) (λ k d l.
    let e = get_or ids k d in
    let n = h.named e.0 e.1 (own ids h.rising k d l) in
    rw (off_mark names e.1, n.1) refl)
