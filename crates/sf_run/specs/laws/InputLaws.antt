-- The list of all inputs has exactly the inputs.
use Rattle.std.proofs.Common.{◌≡◌, ℕ, zero, suc, ◌+◌, ◌^◌, ◌<◌, List, [], ◌∷◌, length, get_or, map, refl, sym, ◌∙◌, ap, subst, arith, inl, inr, lit<}
use Rattle.std.specs.Prelude.{Contains, slice_index, ◌↔◌}
use Rattle.sf_run.specs.Common.{flat_map, range_with_len, Input, IsInput}
use Rattle.std.proofs.lemmas.Bool.{cases_lt}
use Rattle.std.proofs.lemmas.List.{get_or-map, get_or_past, length-map}
use Rattle.std.proofs.lemmas.List.Elements.{Contains-append_left, Contains-append_right, Contains-append_cases}
use Rattle.std.proofs.lemmas.List.FromFn.{length-range_with_len, get_or-range_with_len}
use Rattle.sf_check.specs.laws.ContainsLaws.{contains_cons, contains_here, contains_there, contains_nil}
use Rattle.sf_run.specs.Feasible.{lists_below, input_of, all_inputs}

-- ---- elements of lists that are made of other lists

module _ {A B : Type 0} where
  pub contains_map : (f : A → B) (xs : List A) (x : A) → Contains xs x → Contains (map f xs) (f x)
  contains_map f xs x (k, lt, e) = (k, omega (arith, length-map xs f), get_or-map f xs k x (f x) lt ∙ ap f e)

  pub map_contains : (f : A → B) (xs : List A) (y : B) → Contains (map f xs) y → (x : A) × Contains xs x × (f x ≡ y)
  map_contains f [] y c = absurd (contains_nil y c)
  map_contains f (z ∷ zs) y c =
      elim (contains_cons (f z) (map f zs) y c) [
        | inl e ↦ (z, contains_here z zs z refl, e)
        | inr later ↦ let r = map_contains f zs y later in (r.0, contains_there z zs r.0 r.1, r.2)
      ]

  contains_flat : (f : A → List B) (xs : List A) (x : A) (y : B) → Contains xs x → Contains (f x) y
      → Contains (flat_map f xs) y
  contains_flat f [] x y c d = absurd (contains_nil x c)
  contains_flat f (z ∷ zs) x y c d =
      elim (contains_cons z zs x c) [
        | inl e ↦ Contains-append_left (f z) (flat_map f zs) y (subst (λ (w : A). Contains (f w) y) (sym e) d)
        | inr later ↦ Contains-append_right (f z) (flat_map f zs) y (contains_flat f zs x y later d)
      ]

  flat_contains : (f : A → List B) (xs : List A) (y : B) → Contains (flat_map f xs) y → (x : A) × Contains xs x
      × Contains (f x) y
  flat_contains f [] y c = absurd (contains_nil y c)
  flat_contains f (z ∷ zs) y c =
      elim (Contains-append_cases (f z) (flat_map f zs) y c) [
        | inl here ↦ (z, contains_here z zs z refl, here)
        | inr later ↦ let r = flat_contains f zs y later in (r.0, contains_there z zs r.0 r.1, r.2)
      ]

-- ---- all numbers below m, and all lists of n of them

number_there : (m k : ℕ) → k < m → Contains (range_with_len 0 m) k
number_there m k below =
    let long = length-range_with_len 0 m in
    let same : 0 + k ≡ k = omega arith in
    (k, omega arith, get_or-range_with_len 0 m k k below ∙ same)

number_below : (m k : ℕ) → Contains (range_with_len 0 m) k → k < m
number_below m k (i, within, is) =
    let long = length-range_with_len 0 m in
    let at = get_or-range_with_len 0 m i k (omega arith) in
    omega arith

-- a list with one more number in front, for each number below m
abbrev longer : ℕ → List ℕ → List (List ℕ)
longer m ns = map (λ k. k ∷ ns) (range_with_len 0 m)

-- n numbers below m
abbrev Fits : ℕ → ℕ → List ℕ → Type 0
Fits n m ws = (length ws ≡ n) × ((i : ℕ) → i < n → get_or ws i 0 < m)

list_there : (n m : ℕ) (ws : List ℕ) → Fits n m ws → Contains (lists_below n m) ws
unfolding lists_below
list_there zero m [] fits = contains_here {X = List ℕ} [] [] [] refl
list_there zero m (w ∷ ws) fits = let long = fits.0 in absurd (omega arith)
list_there (suc n) m [] fits = let long = fits.0 in absurd (omega arith)
list_there (suc n) m (w ∷ ws) fits =
    let long = fits.0 in
    let rest = list_there n m ws (omega arith, λ i less. fits.1 (suc i) (omega arith)) in
    let first : w < m = fits.1 0 (omega arith) in
    let here : Contains (longer m ws) (w ∷ ws) =
    contains_map (λ (k : ℕ). k ∷ ws) (range_with_len 0 m) w (number_there m w first) in
    contains_flat (longer m) (lists_below n m) ws (w ∷ ws) rest here

fits_more : (n m w : ℕ) (ws : List ℕ) → w < m → Fits n m ws → Fits (suc n) m (w ∷ ws)
fits_more n m w ws first fits = (ap suc fits.0, each)
  where
    each : (i : ℕ) → i < suc n → get_or (w ∷ ws) i 0 < m
    each zero less = first
    each (suc i) less = fits.1 i (omega arith)

list_fits : (n m : ℕ) (ws : List ℕ) → Contains (lists_below n m) ws → Fits n m ws
unfolding lists_below
list_fits zero m ws c =
    elim (contains_cons {X = List ℕ} [] [] ws c) [
      | inl e ↦ (sym (ap length e), λ i less. absurd (omega arith))
      | inr none ↦ absurd (contains_nil ws none)
    ]
list_fits (suc n) m ws c =
    let r = flat_contains (longer m) (lists_below n m) ws c in
    let k = map_contains (λ (k : ℕ). k ∷ r.0) (range_with_len 0 m) ws r.2 in
    subst (Fits (suc n) m) k.2 (fits_more n m k.0 r.0 (number_below m k.0 k.1) (list_fits n m r.0 r.1))

-- each number of the list is below m, and what stands past its end is 0
each_below : (n m : ℕ) (ws : List ℕ) → 0 < m → Fits n m ws → (i : ℕ) → slice_index ws i < m
each_below n m ws some fits i =
    elim (cases_lt i n) [
      | inl within ↦ fits.1 i within
      | inr past ↦ let long = fits.0 in let zero_there : get_or ws i 0 ≡ 0 =
          get_or_past ws i 0 (omega arith) in omega arith
    ]

-- ---- all inputs

input_there : (d : Input) → IsInput d → Contains all_inputs d
unfolding all_inputs
input_there d is =
    contains_map input_of (lists_below 16 (2 ^ 32)) d.words
    (list_there 16 (2 ^ 32) d.words (is.sixteen, λ i within. is.each i))

there_input : (d : Input) → Contains all_inputs d → IsInput d
unfolding all_inputs
there_input d c =
    let ws = map_contains input_of (lists_below 16 (2 ^ 32)) d c in
    let fits = list_fits 16 (2 ^ 32) ws.0 ws.1 in
    let is : IsInput (input_of ws.0) = record { sixteen = fits.0; each = each_below 16 (2 ^ 32) ws.0 (lit< tt) fits } in
    subst IsInput ws.2 is

-- the list of all inputs has exactly the inputs
pub inputs_are : (d : Input) → Contains all_inputs d ↔ IsInput d
inputs_are d = (there_input d, input_there d)
