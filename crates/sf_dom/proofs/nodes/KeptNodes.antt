-- How what is known of nodes is kept: constants in their slots, the others in a list of variables.
use Rattle.sf_dom.proofs.Common.{common_steps, ◌≡◌, ◌≢◌, ℕ, ◌-◌, ◌<◌, ◌≤◌, List, [], ◌∷◌, ◌++◌, length, set, arith, refl, sym, ap, ◌∙◌, ◌⊎◌, inl, inr, cases_lt, cases_eq, get_or-set_same, get_or-set_other, length-set, length-map, length_push, get_or-map, get_or_append_left, get_or_push, map-append, map-set, set-get_or, ext_get_or, slice_index, zero, suc, Known, Variable, Slot, Number, IsDecided, known_of, known_at, IsLaidOut, AreKept, slot_known, slot_at, known_by, places_of, variable_at, set_known}
use Rattle.sf_dom.specs.declared.slots.Slot.TheVariants.{Variable as VariableAt}

-- a place and what is known there
abbrev pub variable_of : ℕ → Known → Variable
variable_of i x = record { place = i; known = x }

-- what is known of the node of a slot
pub known-slot : (slots : List Slot) (os : List Variable) (i : ℕ) → i < length slots
    → known_at (known_by os slots) i ≡ slot_known os (slot_at slots i)
known-slot slots os i l = get_or-map (slot_known os) slots i (Number 0) (known_of 0 0 0 0) l

pub known-length : (slots : List Slot) (os : List Variable) → length (known_by os slots) ≡ length slots
known-length slots os = length-map slots (slot_known os)

pub places-length : (os : List Variable) → length (places_of os) ≡ length os
places-length os = length-map os (λ o. o.place)

-- a variable's place is no less than its rank
pub rank-below : (slots : List Slot) (os : List Variable) (r : ℕ) → AreKept slots os → r < length os
    → r ≤ slice_index (places_of os) r
rank-below slots os zero k l = omega arith
rank-below slots os (suc r) k l = grind (arith, common_steps, rank-below slots os r k (omega arith))

-- there are no more variables than slots
pub variables-fit : (slots : List Slot) (os : List Variable) → AreKept slots os → length os ≤ length slots
variables-fit slots os k = elim (cases_eq (length os) 0) [
  | inl e ↦ omega arith
  | inr ne ↦ (let last : length os - 1 < length os = omega arith in
      omega (arith, rank-below slots os (length os - 1) k last, k.within (length os - 1) last))
]

-- what is kept so is laid out
pub laid-out : (slots : List Slot) (os : List Variable) → AreKept slots os
    → IsLaidOut (record { known = known_by os slots; variables = places_of os })
laid-out slots os k = record {
  within = λ j l. omega (arith, k.within j (omega (arith, places-length os)), known-length slots os);
  rising = λ j m a l. k.rising j m a (omega (arith, places-length os));
  rest = λ i l. rest i (omega (arith, known-length slots os)) (slot_at slots i) refl;
}
  where
    rest : (i : ℕ) → i < length slots → (s : Slot) → slot_at slots i ≡ s
        → ((j : ℕ) × (j < length (places_of os)) × (slice_index (places_of os) j ≡ i))
        ⊎ ((16 ≤ i) × IsDecided (known_at (known_by os slots) i))
    rest i l (Number c) e = inr (k.numbers i c l e, rw (known-slot slots os i l, e) refl)
    rest i l (VariableAt r) e = let v = k.variables i r l e in inl (r, omega (arith, places-length os, v.0), v.1)

-- a node whose slot is that of a variable
pub record IsVariable (slots : List Slot) (os : List Variable) (i r : ℕ) : Type 0 where
  pub below : i < length slots
  pub found : slot_at slots i ≡ VariableAt r
  pub rank : r < length os
  pub place : slice_index (places_of os) r ≡ i

pub variable-here : (slots : List Slot) (os : List Variable) (i r : ℕ) (slot : Slot) → AreKept slots os
    → i < length (known_by os slots) → slot ≡ slot_at slots i → slot ≡ VariableAt r → IsVariable slots os i r
variable-here slots os i r slot kept within found is =
    let below : i < length slots = omega (arith, within, known-length slots os) in
    let at = kept.variables i r below (sym found ∙ is) in
    record { below = below; found = sym found ∙ is; rank = at.0; place = at.1 }

-- a variable's facts are written at its place
pub known-set : (slots : List Slot) (os : List Variable) (r i : ℕ) (x : Known) → AreKept slots os → i < length slots
    → slot_at slots i ≡ VariableAt r → known_by (set os r (variable_of i x)) slots ≡ set (known_by os slots) i x
known-set slots os r i x k l e =
    ext_get_or (known_of 0 0 0 0) (known_by new slots) (set (known_by os slots) i x)
    (known-length slots new ∙ sym (length-set (known_by os slots) i x ∙ known-length slots os))
    (λ j lj. let below : j < length slots = omega (arith, known-length slots new) in
    known-slot slots new j below ∙ elim (cases_eq j i) [
      | inl s ↦ rw (
        s,
        e,
        get_or-set_same (known_by os slots) i x (known_of 0 0 0 0) (omega (arith, known-length slots os)),
      ) (ap (λ (o : Variable). o.known) (get_or-set_same os r (variable_of i x) (variable_of 0 (known_of 0 0 0 0))
          (k.variables i r l e).0))
      | inr ne ↦ other j ne below (slot_at slots j) refl ∙ sym (known-slot slots os j below)
          ∙ sym (get_or-set_other (known_by os slots) i j x (known_of 0 0 0 0) ne)
    ])
  where
    new : List Variable
    new = set os r (variable_of i x)

    other : (j : ℕ) → j ≢ i → j < length slots → (s : Slot) → slot_at slots j ≡ s → slot_known new s ≡ slot_known os s
    other j ne b (Number c) f = refl
    other j ne b (VariableAt q) f =
        let v = k.variables j q b f in let w = k.variables i r l e in
        let apart : q ≢ r = λ same. ne (sym v.1 ∙ ap (slice_index (places_of os)) same ∙ w.1) in
        ap (λ (o : Variable). o.known) (get_or-set_other os r q (variable_of i x)
        (variable_of 0 (known_of 0 0 0 0)) apart)

-- a variable is at its place
pub place-of : (os : List Variable) (r : ℕ) → r < length os → (variable_at os r).place ≡ slice_index (places_of os) r
place-of os r l = sym (get_or-map (λ (o : Variable). o.place) os r (variable_of 0 (known_of 0 0 0 0)) 0 l)

-- what is written of a variable is known at its place
pub known-set_known : (slots : List Slot) (os : List Variable) (r : ℕ) (x : Known) → AreKept slots os → r < length os
    → known_by (set_known os r x) slots ≡ set (known_by os slots) (slice_index (places_of os) r) x
known-set_known slots os r x k l =
    rw (place-of os r l) (known-set slots os r (slice_index (places_of os) r) x k (k.within r l) (k.told r l))

-- the variables keep their places
pub places-set_known : (os : List Variable) (r : ℕ) (x : Known) → r < length os
    → places_of (set_known os r x) ≡ places_of os
places-set_known os r x l = map-set (λ (o : Variable). o.place) os r _ ∙ ap (set (places_of os) r) (place-of os r l)
    ∙ set-get_or (places_of os) r 0

-- and are kept as before
pub kept-set_known : (slots : List Slot) (os : List Variable) (r : ℕ) (x : Known) → AreKept slots os → r < length os
    → AreKept slots (set_known os r x)
kept-set_known slots os r x k l =
    let same = places-set_known os r x l in
    let count : length (set_known os r x) ≡ length os = length-set os r _ in
    record {
      variables = λ j q b s. rw (count, same) (k.variables j q b s);
      within = λ j b. rw same (k.within j (omega (arith, b, count)));
      rising = λ j m a b. rw same (k.rising j m a (omega (arith, b, count)));
      told = λ q b. rw same (k.told q (omega (arith, b, count)));
      numbers = k.numbers;
    }

-- one more slot, with a number
pub kept-number : (slots : List Slot) (os : List Variable) (c : ℕ) → 16 ≤ length slots → AreKept slots os
    → AreKept (slots ++ Number c ∷ []) os
kept-number slots os c past k = record {
  variables = λ i r l e. elim (cases_lt i (length slots)) [
    | inl b ↦ k.variables i r b (rw (get_or_append_left slots (Number c ∷ []) (Number 0) i b) at e)
    | inr g ↦ (let here = get_or_push slots (Number c) (Number 0) i (omega (arith, length_push slots (Number c))) in
        let clash : Number c ≡ VariableAt r = sym here ∙ e in absurd cc)
  ];
  within = λ r l. omega (arith, k.within r l, length_push slots (Number c));
  rising = k.rising;
  told = search (arith, get_or_append_left);
  numbers = search (arith, cases_lt, get_or_append_left);
}

-- one more slot, of a variable
pub known-variable : (slots : List Slot) (os : List Variable) (x : Known) → AreKept slots os
    → known_by (os ++ variable_of (length slots) x ∷ []) (slots ++ VariableAt (length os) ∷ [])
    ≡ known_by os slots ++ x ∷ []
known-variable slots os x k =
    map-append (slot_known new) slots (VariableAt (length os) ∷ [])
    ∙ ap (λ y. known_by new slots ++ y ∷ []) (ap (λ (o : Variable). o.known)
    (get_or_push os v (variable_of 0 (known_of 0 0 0 0)) (length os) refl)) ∙ ap (λ ks. ks ++ x ∷ []) older
  where
    v : Variable
    v = variable_of (length slots) x

    new : List Variable
    new = os ++ v ∷ []

    same : (j : ℕ) → j < length slots → (s : Slot) → slot_at slots j ≡ s → slot_known new s ≡ slot_known os s
    same j b (Number c) f = refl
    same j b (VariableAt q) f = ap (λ (o : Variable). o.known)
        (get_or_append_left os (v ∷ []) (variable_of 0 (known_of 0 0 0 0)) q (k.variables j q b f).0)

    older : known_by new slots ≡ known_by os slots
    older = ext_get_or (known_of 0 0 0 0) (known_by new slots) (known_by os slots)
        (known-length slots new ∙ sym (known-length slots os))
        (λ j l. let b : j < length slots = omega (arith, known-length slots new) in
        known-slot slots new j b ∙ same j b (slot_at slots j) refl ∙ sym (known-slot slots os j b))

pub kept-variable : (slots : List Slot) (os : List Variable) (x : Known) → AreKept slots os
    → AreKept (slots ++ VariableAt (length os) ∷ []) (os ++ variable_of (length slots) x ∷ [])
kept-variable slots os x k = record {
  variables = λ i r l e. elim (cases_lt i (length slots)) [
    | inl b ↦ (let o = k.variables i r b (rw (get_or_append_left slots (VariableAt (length os) ∷ [])
        (Number 0) i b) at e) in
        (omega (arith, o.0, length_push os v), older r o.0 ∙ o.1))
    | inr g ↦ (let at : i ≡ length slots = omega (arith, length_push slots (VariableAt (length os))) in
        let here = get_or_push slots (VariableAt (length os)) (Number 0) i (sym at) in
        let same : VariableAt (length os) ≡ VariableAt r = sym here ∙ e in
        let rank : length os ≡ r = cc in
        (omega (arith, length_push os v), rw (← rank) (newest ∙ sym at)))
  ];
  within = λ r l. elim (cases_lt r (length os)) [
    | inl b ↦ omega (arith, older r b, k.within r b, length_push slots (VariableAt (length os)))
    | inr g ↦ (let rank : r ≡ length os = omega (arith, length_push os v) in
        rw rank (omega (arith, newest, length_push slots (VariableAt (length os)))))
  ];
  rising = grind (arith, common_steps, cases_lt, length_push, older, newest);
  told = λ r l. elim (cases_lt r (length os)) [
    | inl b ↦ rw (older r b) (get_or_append_left slots (VariableAt (length os) ∷ []) (Number 0)
        (slice_index (places_of os) r) (k.within r b) ∙ k.told r b)
    | inr g ↦ (let rank : r ≡ length os = omega (arith, length_push os v) in
        rw (rank, newest) (get_or_push slots (VariableAt (length os)) (Number 0) (length slots) refl))
  ];
  numbers = search (arith, cases_lt, get_or_append_left, get_or_push, length_push);
}
  where
    v : Variable
    v = variable_of (length slots) x

    places : places_of (os ++ v ∷ []) ≡ places_of os ++ length slots ∷ []
    places = map-append (λ (o : Variable). o.place) os (v ∷ [])

    older : (r : ℕ) → r < length os → slice_index (places_of (os ++ v ∷ [])) r ≡ slice_index (places_of os) r
    older r l = ap (λ ps. slice_index ps r) places ∙ get_or_append_left (places_of os) (length slots ∷ []) 0 r
        (omega (arith, places-length os))

    newest : slice_index (places_of (os ++ v ∷ [])) (length os) ≡ length slots
    newest = ap (λ ps. slice_index ps (length os)) places ∙ get_or_push (places_of os) (length slots) 0 (length os)
        (places-length os)
