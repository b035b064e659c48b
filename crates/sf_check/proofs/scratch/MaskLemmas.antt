-- By its masks the checker finds the least load that a path has not set.
use Rattle.sf_check.proofs.Common.{common_steps, ◌≡◌, ℕ, ◌+◌, ◌*◌, ◌%◌, ◌^◌, ◌<◌, min, List, [], ◌∷◌, length, get_or, set, replicate, Some, bit_and, bit_or, refl, sym, ap, subst, ◌∙◌, ◌⊎◌, inl, inr, arith, length-set, Contains, Any, bit_at, w16, cases_eq, get_or-set_same, get_or-set_other, get_or-replicate, length-replicate, bit_at-lt, bit_at-zero, bit_at_and, bit_at_ones, bit_at_set_same, bit_at_set_other, same_Some, Insn, stored_by, loaded_by, successors, AllBelow, IsAt, Leads, IsPath, Stores, IsSetAt, IsUnsetAt, narrowed_masks, successor_after, contains_cons, contains_here, contains_there, contains_nil, any_nil, any_here, any_there, any_cons}

-- ---- a bit that is set

pub set_more : (n k : ℕ) → k < 16 → (i : ℕ) → bit_at n i ≡ 1 → bit_at (bit_or n (1 * 2 ^ k % 65536)) i ≡ 1
set_more n k lt i h =
    elim (cases_eq i k) [
      | inl e ↦ rw e (bit_at_set_same w16 n k lt)
      | inr ne ↦ bit_at_set_other w16 n k lt i ne ∙ h
    ]

pub set_here : (n k : ℕ) → k < 16 → bit_at (bit_or n (1 * 2 ^ k % 65536)) k ≡ 1
set_here n k lt = bit_at_set_same w16 n k lt

pub set_only : (n k : ℕ) → k < 16 → (i : ℕ) → bit_at (bit_or n (1 * 2 ^ k % 65536)) i ≡ 1 → bit_at n i ≡ 0 → k ≡ i
set_only n k lt i h z =
    elim (cases_eq i k) [
      | inl e ↦ sym e
      | inr ne ↦ absurd (omega (arith, bit_at_set_other w16 n k lt i ne))
    ]

-- ---- masks that are met

-- one mask is met with a set
met_same : (ms : List ℕ) (p s k : ℕ) → p < length ms → bit_at (get_or (set ms p (bit_and (get_or ms p 0) s)) p 0) k
    ≡ min (bit_at (get_or ms p 0) k) (bit_at s k)
met_same ms p s k lt = grind (arith, common_steps, get_or-set_same, bit_at_and)

met_other : (ms : List ℕ) (p s k q : ℕ) → (q ≡ p → ⊥) → bit_at (get_or (set ms p (bit_and (get_or ms p 0) s)) q 0) k
    ≡ bit_at (get_or ms q 0) k
met_other ms p s k q ne = ap (λ (n : ℕ). bit_at n k) (get_or-set_other ms p q (bit_and (get_or ms p 0) s) 0 ne)

pub length-narrowed_masks : (qs : List ℕ) (s : ℕ) (ms : List ℕ) → length (narrowed_masks qs s ms) ≡ length ms
length-narrowed_masks [] s ms = refl
length-narrowed_masks (p ∷ qs) s ms = length-narrowed_masks qs s (set ms p (bit_and (get_or ms p 0) s))
    ∙ length-set ms p (bit_and (get_or ms p 0) s)

-- a mask stays where its place is not met, and else its bits are those of the set too
met : (n : ℕ) (qs : List ℕ) (s : ℕ) (ms : List ℕ) (q k : ℕ) → length ms ≡ n → AllBelow n qs
    → ((Contains qs q → ⊥) × (bit_at (get_or (narrowed_masks qs s ms) q 0) k ≡ bit_at (get_or ms q 0) k))
    ⊎ (Contains qs q × (bit_at (get_or (narrowed_masks qs s ms) q 0) k ≡ min (bit_at (get_or ms q 0) k) (bit_at s k)))
met n [] s ms q k len below = inl (contains_nil q, refl)
met n (p ∷ qs) s ms q k len below =
    let len' = length-set ms p (bit_and (get_or ms p 0) s) ∙ len in
    let rest = met n qs s (set ms p (bit_and (get_or ms p 0) s)) q k len' below.1 in
    elim (cases_eq q p) [
      | inl e ↦
          let here : bit_at (get_or (set ms p (bit_and (get_or ms p 0) s)) q 0) k
          ≡ min (bit_at (get_or ms q 0) k) (bit_at s k) = rw e (met_same ms p s k (omega (arith, below.0))) in
          inr (contains_here p qs q (sym e), elim rest [ inl h ↦ h.1 ∙ here | inr h ↦ h.1 ∙ omega (arith, here) ])
      | inr ne ↦
          let other = met_other ms p s k q ne in
          elim rest [
            | inl h ↦ inl (
              λ c. elim (contains_cons p qs q c) [ inl e ↦ ne (sym e) | inr more ↦ h.0 more ],
              h.1 ∙ other,
            )
            | inr h ↦ inr (contains_there p qs q h.0, h.1 ∙ ap (λ (x : ℕ). min x (bit_at s k)) other)
          ]
    ]

-- ---- paths

-- the place before the end of a path, if there is one, lies below a place
abbrev pub ComesFromBelow : ℕ → List ℕ → Type 0
ComesFromBelow place [] = Unit {0}
ComesFromBelow place (before ∷ earlier) = before < place

path_goes_up : (code : List Insn) (q : ℕ) (earlier : List ℕ) → IsPath code (q ∷ earlier) → ComesFromBelow q earlier
path_goes_up code q [] path = tt
path_goes_up code q (p ∷ earlier) path = successor_after p path.0.0 q path.0.2

-- ---- place after place

-- Once the places below one are done: a bit of a mask stands for a word that each path from below has set, a clear
-- bit for one that some path has not set, and no load below is of a word that may not be set.
pub record Known (code : List Insn) (masks : List ℕ) (place : ℕ) : Type 0 where
  pub size : length masks ≡ length code
  pub sound : (q k : ℕ) (earlier : List ℕ) → bit_at (get_or masks q 0) k ≡ 1 → ComesFromBelow place earlier
      → IsPath code (q ∷ earlier) → Any (Stores code k) earlier
  pub complete : (q k : ℕ) → q < length code → k < 16 → bit_at (get_or masks q 0) k ≡ 0 → (earlier : List ℕ)
      × IsPath code (q ∷ earlier) × (Any (Stores code k) earlier → ⊥)
  pub all_set : (j : ℕ) → j < place → IsSetAt code j

-- the masks at the start: all words, but none at place 0
abbrev fresh : ℕ → List ℕ
fresh n = set (replicate n 65535) 0 0

pub known_start : (code : List Insn) (n : ℕ) → n ≡ length code → 0 < length code
    → Known code (set (replicate n 65535) 0 0) 0
known_start code n n-is some = record {
  size = size;
  sound = sound;
  complete = λ q k lt small z. elim (cases_eq q 0) [
    | inl e ↦ ([], e, any_nil (Stores code k))
    | inr ne ↦
        let there = rw (
          get_or-set_other {A = ℕ} (replicate {A = ℕ} n 65535) 0 q 0 0 ne,
          get_or-replicate {A = ℕ} n q 65535 0 (omega arith),
        ) at z in
        absurd (omega (arith, bit_at_ones 16 k small, there))
  ];
  all_set = λ j lt. absurd (omega arith);
}
  where
    size : length (fresh n) ≡ length code
    size = length-set {A = ℕ} (replicate {A = ℕ} n 65535) 0 0 ∙ length-replicate {A = ℕ} n 65535 ∙ n-is

    first_is : get_or (fresh n) 0 0 ≡ 0
    first_is = get_or-set_same {A = ℕ} (replicate {A = ℕ} n 65535) 0 0 0
        (omega (arith, length-replicate {A = ℕ} n 65535))

    sound : (q k : ℕ) (earlier : List ℕ) → bit_at (get_or (fresh n) q 0) k ≡ 1 → ComesFromBelow 0 earlier
        → IsPath code (q ∷ earlier) → Any (Stores code k) earlier
    sound q k [] h below path =
        let at_first = rw (path, first_is) at h in
        absurd (omega (arith, bit_at-zero k, at_first))
    sound q k (p ∷ earlier) h below path = absurd (omega (arith, below))

-- a load of a word that the mask of its place has
pub load_is_set : (code : List Insn) (masks : List ℕ) (place : ℕ) (i : Insn) → Known code masks place
    → IsAt code place i → ((k : ℕ) → loaded_by i ≡ Some k → bit_at (get_or masks place 0) k ≡ 1) → IsSetAt code place
load_is_set code masks place i known at fine k earlier loads path =
    let same : loads.0 ≡ i = same_Some loads.0 i (sym loads.1 ∙ at) in
    known.sound place k earlier (fine k (ap loaded_by (sym same) ∙ loads.2)) (path_goes_up code place earlier path) path

-- a load of a word that the mask of its place lacks
pub load_is_unset : (code : List Insn) (masks : List ℕ) (place : ℕ) (i : Insn) (k : ℕ) → Known code masks place
    → place < length code → IsAt code place i → k < 16 → loaded_by i ≡ Some k → bit_at (get_or masks place 0) k ≡ 0
    → IsUnsetAt code place
load_is_unset code masks place i k known lt at small loads z =
    let found = known.complete place k lt small z in
    (k, found.0, (i, at, loads), found.1, found.2)

pub known_step : (code : List Insn) (masks : List ℕ) (place : ℕ) (i : Insn) (after : ℕ) → Known code masks place
    → place < length code → IsAt code place i → AllBelow (length code) (successors place i)
    → ((k : ℕ) → loaded_by i ≡ Some k → bit_at (get_or masks place 0) k ≡ 1)
    → ((k : ℕ) → bit_at (get_or masks place 0) k ≡ 1 → bit_at after k ≡ 1)
    → ((k : ℕ) → stored_by i ≡ Some k → bit_at after k ≡ 1)
    → ((k : ℕ) → bit_at after k ≡ 1 → bit_at (get_or masks place 0) k ≡ 0 → stored_by i ≡ Some k)
    → Known code (narrowed_masks (successors place i) after masks) (place + 1)
known_step code masks place i after known lt at inside fine more stored only = record {
  size = length-narrowed_masks (successors place i) after masks ∙ known.size;
  sound = sound;
  complete = λ q k q-lt small z. elim (cases_eq (bit_at (get_or masks q 0) k) 0) [
    | inl clear ↦ known.complete q k q-lt small clear
    | inr some ↦ elim (met (length code) (successors place i) after masks q k known.size inside) [
      | inl m ↦ absurd (some (sym m.1 ∙ z))
      | inr m ↦ extend q k small m.0 (omega (arith, m.1, z))
    ]
  ];
  all_set = λ j j-lt. elim (cases_eq j place) [
    | inl e ↦ subst (λ (x : ℕ). IsSetAt code x) (sym e) (load_is_set code masks place i known at fine)
    | inr ne ↦ known.all_set j (omega arith)
  ];
}
  where
    bits : (n k : ℕ) → (bit_at n k ≡ 0) ⊎ (bit_at n k ≡ 1)
    bits n k = elim (cases_eq (bit_at n k) 0) [ inl e ↦ inl e | inr ne ↦ inr (omega (arith, bit_at-lt n k)) ]

    -- the instruction that leads on from here is this one
    here : (q : ℕ) → Leads code place q → Contains (successors place i) q
    here q leads = subst (λ (j : Insn). Contains (successors place j) q)
        (same_Some leads.0 i (sym leads.1 ∙ at)) leads.2

    -- a bit that stays was there, and is in the set where the place is met
    kept : (q k : ℕ) → bit_at (get_or (narrowed_masks (successors place i) after masks) q 0) k ≡ 1
        → (bit_at (get_or masks q 0) k ≡ 1) × (Contains (successors place i) q → bit_at after k ≡ 1)
    kept q k h = elim (met (length code) (successors place i) after masks q k known.size inside) [
      | inl m ↦ (sym m.1 ∙ h, λ c. absurd (m.0 c))
      | inr m ↦ (
        omega (arith, m.1, h, bit_at-lt (get_or masks q 0) k, bit_at-lt after k),
        λ c. omega (arith, m.1, h, bit_at-lt (get_or masks q 0) k, bit_at-lt after k),
      )
    ]

    sound : (q k : ℕ) (earlier : List ℕ) → bit_at (get_or (narrowed_masks (successors place i) after masks) q 0) k ≡ 1
        → ComesFromBelow (place + 1) earlier → IsPath code (q ∷ earlier) → Any (Stores code k) earlier
    sound q k [] h below path = known.sound q k [] (kept q k h).0 tt path
    sound q k (p ∷ earlier) h below path = from (cases_eq p place)
      where
        from : (p ≡ place) ⊎ (p ≡ place → ⊥) → Any (Stores code k) (p ∷ earlier)
        from (inr ne) = known.sound q k (p ∷ earlier) (kept q k h).0 (omega (arith, below)) path
        from (inl e) =
            let leads = subst (λ (x : ℕ). Leads code x q) e path.0 in
            let back = subst (λ (x : ℕ). IsPath code (x ∷ earlier)) e path.1 in
            let bit_after = (kept q k h).1 (here q leads) in
            let at_place : Any (Stores code k) (place ∷ earlier) = elim (bits (get_or masks place 0) k) [
              | inl z ↦ any_here (Stores code k) place earlier (i, at, only k bit_after z)
              | inr one ↦ any_there (Stores code k) place earlier
                  (known.sound place k earlier one (path_goes_up code place earlier back) back)
            ] in
            subst (λ (x : ℕ). Any (Stores code k) (x ∷ earlier)) (sym e) at_place

    -- a path to this place that lacks a store leads on
    extend : (q k : ℕ) → k < 16 → Contains (successors place i) q → bit_at after k ≡ 0
        → (earlier : List ℕ) × IsPath code (q ∷ earlier) × (Any (Stores code k) earlier → ⊥)
    extend q k small to z =
        let clear : bit_at (get_or masks place 0) k ≡ 0 = elim (bits (get_or masks place 0) k) [
          | inl e ↦ e
          | inr one ↦ absurd (omega (arith, z, more k one))
        ] in
        let found = known.complete place k lt small clear in (
          place ∷ found.0,
          ((i, at, to), found.1),
          λ any. elim (any_cons (Stores code k) place found.0 any) [
            | inl s ↦ omega (arith, z, stored k (ap stored_by (sym (same_Some s.0 i (sym s.1 ∙ at))) ∙ s.2))
            | inr later ↦ found.2 later
          ],
        )
