-- The definitions over trees, at the lists that the code goes through.
use Rattle.sf_policy.proofs.Common.{◌≡◌, ℕ, true, false, List, [], ◌∷◌, ◌&&◌, ◌||◌, Bool, map, refl, ap, ◌∙◌, sym, String, string_bytes, Global, is_some, Option, Some, None, length, get_or, take, drop, set, ◌<◌, ◌≤◌, ◌+◌, ◌++◌, append_assoc, arith, Bor, unwrap_or, get_or-map, drop_more, length-map, take-set_at, list_any, list_all, keys_of, bytes_eq, Data, no_members, as_str, as_table, view, items_view, members_view, Value, unknown_key, find, cond, not, option_map, if◌then◌else◌, slice_get, IsItemAt, MatchOption, HoldsAt, value_numbered, ◌-◌, zero, suc, option_cons, each_of, item_list, texts_of, tables_of, entry_of_array, text_or_empty, table_or_empty}

any_now : (p : List ℕ → Bool) (ks : List (Bor (List ℕ))) → list_any p (map (λ k. k.now) ks) ≡ list_any (λ k. p k.now) ks
any_now p [] = refl
any_now p (k ∷ ks) = ap (λ b. p k.now || b) (any_now p ks)

unknown_step : (known : Bool) (key : String Global) (rest : Option (List ℕ)) (found : Option (String Global))
    → rest ≡ option_map string_bytes found → (if known then rest else Some (string_bytes key))
    ≡ option_map string_bytes (cond (not known) (Some key) found)
unknown_step true key rest found h = h
unknown_step false key rest found h = refl

pub unknown_key_view : (known : List (Bor (List ℕ))) (es : List (String Global × Value))
    → unknown_key (map (λ k. k.now) known) (members_view es) ≡ option_map string_bytes
    (find (λ key. not (list_any (λ k. bytes_eq (string_bytes key) k.now) known)) (keys_of es))
unknown_key_view known [] = refl
unknown_key_view known (e ∷ es) =
    rw (any_now (bytes_eq (string_bytes e.0)) known)
    (unknown_step (list_any (λ k. bytes_eq (string_bytes e.0) k.now) known) e.0 _ _ (unknown_key_view known es))

found_now : (is_found : Bool) (k : Bor (List ℕ)) (rest : Option (Bor (List ℕ))) (rest' : Option (List ℕ))
    → option_map (λ k. k.now) rest ≡ rest'
    → option_map (λ k. k.now) (cond is_found (Some k) rest) ≡ cond is_found (Some k.now) rest'
found_now true k rest rest' h = refl
found_now false k rest rest' h = h

pub find_now : (p : List ℕ → Bool) (ks : List (Bor (List ℕ)))
    → option_map (λ k. k.now) (find (λ k. p k.now) ks) ≡ find p (map (λ k. k.now) ks)
find_now p [] = refl
find_now p (k ∷ ks) = found_now (p k.now) k _ _ (find_now p ks)

pub short_array : (vs : List Value) → length vs < 2 → None ≡ entry_of_array (items_view vs)
short_array [] h = refl
short_array (v ∷ []) h = refl
short_array (v ∷ w ∷ vs) h = absurd (omega arith)

pub long_array : (vs : List Value) → 3 ≤ length vs → None ≡ entry_of_array (items_view vs)
long_array [] h = refl
long_array (v ∷ []) h = refl
long_array (v ∷ w ∷ []) h = absurd (omega arith)
long_array (v ∷ w ∷ x ∷ vs) h = refl

pub listed_view : (vs : List Value) → item_list (items_view vs) ≡ map view vs
listed_view [] = refl
listed_view (v ∷ vs) = ap (λ ds. view v ∷ ds) (listed_view vs)

-- the value that is lent at a place
lent_view : (vs : List Value) (place : ℕ) (r : Option (Bor Value))
    → MatchOption r (length vs ≤ place) (λ v. (place < length vs) × HoldsAt (λ w. v.now ≡ w) vs place)
    → option_map (λ v. view v.now) r ≡ slice_get (map view vs) place
lent_view [] place None h = refl
lent_view [] place (Some v) h = absurd (omega (arith, h.0))
lent_view (w ∷ ws) zero None h = absurd (omega (arith, h))
lent_view (w ∷ ws) zero (Some v) h = ap (λ x. Some (view x)) (h.1 w)
lent_view (w ∷ ws) (suc place) None h = lent_view ws place None (omega (arith, h))
lent_view (w ∷ ws) (suc place) (Some v) h = lent_view ws place (Some v) (omega (arith, h.0), h.1)

pub numbered_view : (vs : List Value) (number : ℕ) (r : Option (Bor Value)) → 1 ≤ number
    → IsItemAt vs (number - 1) r → option_map (λ v. view v.now) r ≡ value_numbered (map view vs) number
numbered_view vs zero r h lent = absurd (omega (arith, h))
numbered_view vs (suc place) r h lent =
    let same : suc place - 1 ≡ place = omega arith in lent_view vs place r (rw same at lent.3)

-- Where each value can be read, all of them are.
each_read : {X : Type 0} (read : Data → Option X) (absent : X) (vs : List Value)
    → list_all (λ v. is_some (read (view v))) vs ≡ true
    → each_of read (map view vs) ≡ Some (map (λ v. unwrap_or (read (view v)) absent) vs)
each_read read absent [] h = refl
each_read read absent (v ∷ vs) h = elim (read (view v)) as (λ r.
    (is_some r && list_all (λ v. is_some (read (view v))) vs) ≡ true
    → option_cons r (each_of read (map view vs))
    ≡ Some (unwrap_or r absent ∷ map (λ v. unwrap_or (read (view v)) absent) vs)) [
      | Some x ↦ λ g. ap (λ r. option_cons (Some x) r) (each_read read absent vs g)
      | None ↦ λ g. cc
    ] h

one_unread : {X : Type 0} (read : Data → Option X) (vs : List Value)
    → list_all (λ v. is_some (read (view v))) vs ≡ false
    → each_of read (map view vs) ≡ None
one_unread read [] h = cc
one_unread read (v ∷ vs) h = elim (read (view v)) as (λ r. (is_some r && list_all (λ v. is_some (read (view v))) vs)
    ≡ false → option_cons r (each_of read (map view vs)) ≡ None) [
      | Some x ↦ λ g. ap (λ r. option_cons (Some x) r) (one_unread read vs g)
      | None ↦ λ g. refl
    ] h

pub texts_view : (vs : List Value) → list_all (λ v. is_some (as_str (view v))) vs ≡ true
    → texts_of (items_view vs) ≡ Some (map (λ v. text_or_empty (view v)) vs)
texts_view vs h = ap (λ ds. each_of as_str ds) (listed_view vs) ∙ each_read as_str [] vs h

pub no_texts_view : (vs : List Value) → list_all (λ v. is_some (as_str (view v))) vs ≡ false
    → texts_of (items_view vs) ≡ None
no_texts_view vs h = ap (λ ds. each_of as_str ds) (listed_view vs) ∙ one_unread as_str vs h

pub tables_view : (vs : List Value) → list_all (λ v. is_some (as_table (view v))) vs ≡ true
    → tables_of (items_view vs) ≡ Some (map (λ v. table_or_empty (view v)) vs)
tables_view vs h = ap (λ ds. each_of as_table ds) (listed_view vs) ∙ each_read as_table no_members vs h

pub no_tables_view : (vs : List Value) → list_all (λ v. is_some (as_table (view v))) vs ≡ false
    → tables_of (items_view vs) ≡ None
no_tables_view vs h = ap (λ ds. each_of as_table ds) (listed_view vs) ∙ one_unread as_table vs h

-- what was read of the first ones, in front of what is read of the others
abbrev pub with_front : {X : Type 0} → List X → Option (List X) → Option (List X)
with_front front None = None
with_front front (Some rest) = Some (front ++ rest)

with_front_cons : {X : Type 0} (front : List X) (x : X) (r : Option (List X))
    → with_front front (option_cons (Some x) r) ≡ with_front (front ++ x ∷ []) r
with_front_cons front x None = refl
with_front_cons front x (Some rest) = ap Some (sym (append_assoc front (x ∷ []) rest))

abbrev pub texts_now : List (Bor (List ℕ)) → List (List ℕ)
texts_now ks = map (λ key. key.now) ks

read_at : {X : Type 0} (read : List ℕ → Option X) (ks : List (Bor (List ℕ))) (i : ℕ) (d : Bor (List ℕ))
    (r : Option X) → i < length ks
    → read (get_or ks i d).now ≡ r → read (get_or (texts_now ks) i []) ≡ r
read_at read ks i d r h found = ap read (get_or-map (λ k. k.now) ks i d [] h) ∙ found

-- One more key was read into its place.
pub one_more_read : {X : Type 0} (read : List ℕ → Option X) (whole : Option (List X)) (ks : List (Bor (List ℕ))) (i : ℕ)
    (d : Bor (List ℕ)) (xs : List X) (x : X)
    → i < length ks → i < length xs → read (get_or ks i d).now ≡ Some x
    → whole ≡ with_front (take i xs) (each_of read (drop i (texts_now ks)))
    → whole ≡ with_front (take (i + 1) (set xs i x)) (each_of read (drop (i + 1) (texts_now ks)))
one_more_read read whole ks i d xs x h k found before =
    let below : i < length (texts_now ks) = rw length-map h in
    let opened = rw (drop_more (texts_now ks) i [] below, read_at read ks i d (Some x) h found) at before in
    opened ∙ with_front_cons (take i xs) x _ ∙ ap (λ l. with_front l (each_of read (drop (i + 1) (texts_now ks))))
    (sym (take-set_at xs i (i + 1) x refl k))

-- A key that can't be read leaves nothing.
pub not_read : {X : Type 0} (read : List ℕ → Option X) (whole : Option (List X)) (ks : List (Bor (List ℕ))) (i : ℕ)
    (d : Bor (List ℕ)) (front : List X)
    → i < length ks → read (get_or ks i d).now ≡ None
    → whole ≡ with_front front (each_of read (drop i (texts_now ks)))
    → None ≡ whole
not_read read whole ks i d front h found before =
    let below : i < length (texts_now ks) = rw length-map h in
    sym (rw (drop_more (texts_now ks) i [] below, read_at read ks i d None h found) at before)
