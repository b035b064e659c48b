-- Lists of outstanding pieces in the order of their ids.
use Rattle.sf_book.proofs.Common.{common_steps, ◌≡◌, ℕ, ◌+◌, ◌<◌, ◌≤◌, ◌==◌, not, Bool, true, false, cond, List, [], ◌∷◌, ◌++◌, length, map, Some, refl, sym, ◌∙◌, ap, subst, arith, All, AllByRecursion, filter, All-head, All-tail, recursion_from_All, sum_by-cons, OutstandingData, HasRisingIds, outstanding_at, without, All-filter, All-from_recursion, sum_by-map}
use Rattle.std.specs.List.{sum_by}
use Rattle.sf_book.proofs.MapLemmas.{num_no, num_same, some_inj}

pub without-above : (a : ℕ) (es : List OutstandingData) → AllByRecursion (λ f. a < f.id) es → without a es ≡ es
without-above a [] h = refl
without-above a (e ∷ es) h =
    let l = h.0 in rw (num_no e.id a (λ k. let e = k in omega arith)) (ap (λ k. e ∷ k) (without-above a es h.1))

-- the piece under an id is taken out
pub sum_by-without : (f : OutstandingData → ℕ) (es : List OutstandingData) (id : ℕ) (x : OutstandingData)
    → HasRisingIds es → outstanding_at id es ≡ Some x → sum_by f (without id es) + f x ≡ sum_by f es
sum_by-without f [] id x h at = absurd cc
sum_by-without f (e ∷ es) id x h at = by (e.id == id) refl at (sum_by-without f es id x h.1)
  where
    by : (b : Bool) → (e.id == id) ≡ b → cond b (Some e) (outstanding_at id es) ≡ Some x
        → (outstanding_at id es ≡ Some x → sum_by f (without id es) + f x ≡ sum_by f es)
        → sum_by f (cond (not b) (e ∷ without id es) (without id es)) + f x ≡ sum_by f (e ∷ es)
    by true is k rest =
        let same : e.id ≡ id = num_same e.id id is in
        let gone : without id es ≡ es = subst (λ k. without k es ≡ es) same (without-above e.id es h.0) in
        let all = sum_by-cons f e es in
        let one : f e ≡ f x = ap f (some_inj e x k) in
        rw gone (omega arith)
    by false is k rest = omega (arith, sum_by-cons f e es, sum_by-cons f e (without id es), rest k)

pub low_id : (es : List OutstandingData) (id next : ℕ) (x : OutstandingData) → All (λ e. e.id < next) es
    → outstanding_at id es ≡ Some x → id < next
low_id [] id next x h at = absurd cc
low_id (e ∷ es) id next x h at = by (e.id == id) refl at
    (low_id es id next x (All-tail (λ (e : OutstandingData). e.id < next) e es h))
  where
    by : (b : Bool) → (e.id == id) ≡ b → cond b (Some e) (outstanding_at id es) ≡ Some x
        → (outstanding_at id es ≡ Some x → id < next) → id < next
    by true is k rest = omega (arith, All-head (λ (e : OutstandingData). e.id < next) e es h, num_same e.id id is)
    by false is k rest = rest k

pub all_filtered : (P : OutstandingData → Type 0) (p : OutstandingData → Bool) (es : List OutstandingData)
    → AllByRecursion P es → AllByRecursion P (filter p es)
all_filtered P p es h = recursion_from_All P (filter p es) (All-filter p P es (All-from_recursion P es h))

pub HasRisingIds-filter : (p : OutstandingData → Bool) (es : List OutstandingData) → HasRisingIds es
    → HasRisingIds (filter p es)
HasRisingIds-filter p [] h = tt
HasRisingIds-filter p (e ∷ es) h = grind (arith, common_steps, cond, all_filtered, HasRisingIds-filter p es h.1)

above-append : (a n : ℕ) (es fs : List OutstandingData) → AllByRecursion (λ f. a < f.id) es → a < n
    → All (λ f. n ≤ f.id) fs → AllByRecursion (λ f. a < f.id) (es ++ fs)
above-append a n (e ∷ es) fs h l m = (h.0, above-append a n es fs h.1 l m)
above-append a n [] fs h l m = recursion_from_All (λ (f : OutstandingData). a < f.id) fs
    (λ k d less. let x = m k d less in omega arith)

pub HasRisingIds-append : (n : ℕ) (es fs : List OutstandingData) → HasRisingIds es → All (λ e. e.id < n) es
    → HasRisingIds fs → All (λ f. n ≤ f.id) fs → HasRisingIds (es ++ fs)
HasRisingIds-append n [] fs h l k m = k
HasRisingIds-append n (e ∷ es) fs h l k m = (
  above-append e.id n es fs h.0 (All-head (λ f. f.id < n) e es l) m,
  HasRisingIds-append n es fs h.1 (All-tail (λ f. f.id < n) e es l) k m,
)

above-map : (g : OutstandingData → OutstandingData) → ((e : OutstandingData) → (g e).id ≡ e.id)
    → (a : ℕ) (es : List OutstandingData)
    → AllByRecursion (λ f. a < f.id) es → AllByRecursion (λ f. a < f.id) (map g es)
above-map g same a [] h = tt
above-map g same a (e ∷ es) h = (rw (same e) h.0, above-map g same a es h.1)

pub HasRisingIds-map : (g : OutstandingData → OutstandingData) → ((e : OutstandingData) → (g e).id ≡ e.id)
    → (es : List OutstandingData)
    → HasRisingIds es → HasRisingIds (map g es)
HasRisingIds-map g same [] h = tt
HasRisingIds-map g same (e ∷ es) h = (
  let P : ℕ → Type 0 = λ k. AllByRecursion (λ f. k < f.id) (map g es) in
      subst P (sym (same e)) (above-map g same e.id es h.0),
  HasRisingIds-map g same es h.1,
)

-- a sum that doesn't see what g changes
pub sum_by-map_same : (f : OutstandingData → ℕ) (g : OutstandingData → OutstandingData)
    → ((e : OutstandingData) → f (g e) ≡ f e)
    → (es : List OutstandingData) → sum_by f (map g es) ≡ sum_by f es
sum_by-map_same f g same es = sum_by-map f g es ∙ (λ i. sum_by (λ e. same e i) es)

pub ones : {A : Type 0} (xs : List A) → sum_by (λ x. 1) xs ≡ length xs
ones [] = refl
ones (x ∷ xs) = let a = sum_by-cons (λ y. 1) x xs in let r = ones xs in omega arith
