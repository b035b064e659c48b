-- The first free name among those of the outstanding pieces.
use Rattle.sf_book.proofs.Common.{common_steps, arith, ◌≡◌, ℕ, Bool, true, false, not, cond, [], ◌∷◌, get_or, Option, None, Some, refl, sym, ◌∙◌, ap, subst, ◌⊎◌, inl, inr, ⊎_elim, All, find, IsStrictlySortedBy, option_map, option_map_or, is_at, keys_of, values_of, lookup-none, none_below_head, none_past_head, IsDistinct-from_sorted, sorted_tail, All-map, PieceData, IsBefore, IsFirstFree, name_cmp, name_total, piece_at, lease_state_of, outstanding_of, outstanding_list, AreMatchingMaps, LeasesFirst, LeaseState}
use Rattle.sf_book.proofs.MapLemmas.{Ids, Names, entry_at_is, mark_by_name, marked, marked_view, name_laws, some_inj}

pub record IsFirst (names : Names) (m : LeaseState) : Type 0 where
  pub key : PieceData
  pub there : lease_state_of names key ≡ Some m
  pub free : m.leased ≡ false
  pub first : (q : PieceData) (n : LeaseState) → lease_state_of names q ≡ Some n → n.leased ≡ false
      → ¬ IsBefore q.name key.name

hidden : (b : Bool) (a m : LeaseState) (o : Option LeaseState) → (b ≡ true → ⊥) → o ≡ Some m
    → cond b (Some a) o ≡ Some m
hidden true a m o f h = absurd (f refl)
hidden false a m o f h = h

head_or_later : (b : Bool) (a n : LeaseState) (o : Option LeaseState) → cond b (Some a) o ≡ Some n
    → (a ≡ n) ⊎ (o ≡ Some n)
head_or_later true a n o h = inl (some_inj a n h)
head_or_later false a n o h = inr h

pub none_some : {A G : Type 0} (a : A) (o : Option A) → o ≡ None → o ≡ Some a → G
none_some a o n s = absurd (cc)

pub true_false : {G : Type 0} (b : Bool) → b ≡ true → b ≡ false → G
true_false b t f = absurd (cc)

abbrev is_free : LeaseState → Bool
is_free m = not m.leased

found_first : (e : PieceData × LeaseState) (names : Names) (m : LeaseState)
    → IsStrictlySortedBy name_cmp (keys_of (e ∷ names))
    → (b : Bool) → e.1.leased ≡ b → cond (not b) (Some e.1) (find is_free (values_of names)) ≡ Some m
    → (find is_free (values_of names) ≡ Some m → IsFirst names m) → IsFirst (e ∷ names) m
found_first e names m s false is h next =
    record {
      key = e.0;
      there = rw (name_laws.refl e.0) h;
      free = ap (λ x. x.leased) (sym (some_inj e.1 m h)) ∙ is;
      first = λ q n at f before. none_some n (lease_state_of (e ∷ names) q)
          (lookup-none (is_at (name_cmp q)) (e ∷ names) (none_below_head name_total q e names s before)) at;
    }
found_first e names m s true is h next =
    let r = next h in
    record {
      key = r.key;
      there = hidden (is_at (name_cmp r.key) e.0) e.1 m (lease_state_of names r.key)
          (λ t. none_some m (lease_state_of names r.key)
          (lookup-none (is_at (name_cmp r.key)) names
          (none_past_head name_laws r.key e names (IsDistinct-from_sorted name_cmp (keys_of (e ∷ names)) s) t))
          r.there)
          r.there;
      free = r.free;
      first = search (arith, true_false, head_or_later);
    }

pub find_first : (names : Names) (m : LeaseState) → IsStrictlySortedBy name_cmp (keys_of names)
    → find is_free (values_of names) ≡ Some m → IsFirst names m
find_first [] m s h = absurd (cc)
find_first (e ∷ names) m s h = found_first e names m s e.1.leased refl h
    (λ k. find_first names m (sorted_tail name_cmp e.0 (keys_of names) s) k)

none_free : (b : Bool) (a : LeaseState) (o : Option LeaseState) → a.leased ≡ b → cond (not b) (Some a) o ≡ None
    → (a.leased ≡ true) × (o ≡ None)
none_free true a o is h = (is, h)
none_free false a o is h = absurd (cc)

pub find_none : (names : Names) → find is_free (values_of names) ≡ None → (q : PieceData) (n : LeaseState)
    → lease_state_of names q ≡ Some n → n.leased ≡ true
find_none [] h q n at = absurd (cc)
find_none (e ∷ names) h q n at =
    let r = none_free e.1.leased e.1 (find is_free (values_of names)) refl h in
    ⊎_elim
    (λ (k : e.1 ≡ n). ap (λ x. x.leased) (sym k) ∙ r.0)
    (λ (k : lease_state_of names q ≡ Some n). find_none names r.1 q n k)
    (head_or_later (is_at (name_cmp q) e.0) e.1 n (lease_state_of names q) at)

leased_all : (o : Option LeaseState) → ((n : LeaseState) → o ≡ Some n → n.leased ≡ true)
    → option_map_or (λ (m : LeaseState). m.leased) o true ≡ true
leased_all None h = refl
leased_all (Some n) h = h n refl

some_free : (o : Option LeaseState) → option_map_or (λ (m : LeaseState). m.leased) o true ≡ false
    → (n : LeaseState) × (o ≡ Some n)
    × (n.leased ≡ false)
some_free None h = absurd (cc)
some_free (Some n) h = (n, refl, h)

pub no_id : (o : Option LeaseState) → None ≡ option_map (λ (m : LeaseState). m.id) o → o ≡ None
no_id None h = refl
no_id (Some m) h = absurd (cc)

an_id : (o : Option LeaseState) (i : ℕ) → Some i ≡ option_map (λ (m : LeaseState). m.id) o → (m : LeaseState)
    × (o ≡ Some m) × (m.id ≡ i)
an_id None i h = absurd (cc)
an_id (Some m) i h = (m, refl, some_inj m.id i (sym h))

pub all_leased : (ids : Ids) (names : Names)
    → None ≡ option_map (λ (m : LeaseState). m.id) (find is_free (values_of names))
    → All (λ e. e.leased ≡ true) (outstanding_list ids names)
all_leased ids names h =
    All-map (λ e. e.leased ≡ true) (outstanding_of names) ids (λ k d l.
    leased_all (lease_state_of names (get_or ids k d).1)
    (find_none names (no_id (find is_free (values_of names)) h) (get_or ids k d).1))

-- the piece of the first free name
pub record IsFirstPiece (ids : Ids) (names : Names) (i : ℕ) : Type 0 where
  pub piece : PieceData
  pub there : piece_at ids i ≡ Some piece
  pub state : LeaseState
  pub marked : lease_state_of names piece ≡ Some state
  pub free : state.leased ≡ false
  pub first : IsFirstFree piece.name (outstanding_list ids names)

pub first_piece : (ids : Ids) (names : Names) (i : ℕ) → AreMatchingMaps ids names
    → Some i ≡ option_map (λ (m : LeaseState). m.id) (find is_free (values_of names)) → IsFirstPiece ids names i
first_piece ids names i h is =
    let m = an_id (find is_free (values_of names)) i is in
    let f = find_first names m.0 h.sorted m.1 in
    let r = h.known f.key m.0 f.there in
    record {
      piece = r.0;
      there = ap (λ k. piece_at ids k) (sym m.2) ∙ r.1;
      state = m.0;
      marked = mark_by_name names r.0 f.key r.2 ∙ f.there;
      free = f.free;
      first = All-map (λ e. e.leased ≡ false → ¬ IsBefore e.piece.name r.0.name)
          (outstanding_of names) ids (λ k d l free.
          let q = (get_or ids k d).1 in
          let n = some_free (lease_state_of names q) free in
          subst (λ w. ¬ IsBefore q.name w) (sym r.2) (f.first q n.0 n.1 n.2));
    }

pub leases_entry : (ids : Ids) (names : Names) (i : ℕ) (p : PieceData) → AreMatchingMaps ids names
    → (f : IsFirstPiece ids names i) → f.piece ≡ p
    → LeasesFirst (outstanding_list ids names) i p (outstanding_list ids (marked names f.piece f.state true))
leases_entry ids names i p h f same = grind (arith, common_steps, entry_at_is, marked_view)
