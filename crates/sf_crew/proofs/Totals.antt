-- Sums and greatest values over all views, and lists read by place.
use Rattle.sf_crew.proofs.Common.{common_steps, ◌≡◌, ℕ, zero, suc, ◌+◌, ◌≤◌, ◌==◌, if◌then◌else◌, cond, max, List, [], ◌∷◌, ◌++◌, sum_by, count_by, set, sym, refl, ap, arith, sum_by-cons, sum_by-append, some, some-injective, some-ne-none, get_elem?, at_set, subst, length, ◌≢◌, View, top}

-- how often x stands in the list
abbrev pub times : ℕ → List ℕ → ℕ
times x xs = count_by (λ y. x == y) xs

pub times_cons : (x y : ℕ) (ys : List ℕ) → times x (y ∷ ys) ≡ (if x == y then 1 else 0) + times x ys
times_cons x y ys = sum_by-cons (λ (z : ℕ). cond (x == z) 1 0) y ys

pub times_append : (x : ℕ) (xs ys : List ℕ) → times x (xs ++ ys) ≡ times x xs + times x ys
times_append x xs ys = sum_by-append (λ (z : ℕ). cond (x == z) 1 0) xs ys

pub total_set : (f : View → ℕ) (views : List View) (port : ℕ) (v w : View) → get_elem? views port ≡ some v
    → sum_by f (set views port w) + f v ≡ sum_by f views + f w
total_set f [] port v w e = absurd (some-ne-none v (sym e))
total_set f (x ∷ xs) zero v w e = grind (arith, common_steps, sum_by-cons, some-injective)
total_set f (x ∷ xs) (suc port) v w e = grind (arith, common_steps, sum_by-cons, total_set f xs port v w e)

pub total_at : (f : View → ℕ) (views : List View) (port : ℕ) (v : View) → get_elem? views port ≡ some v
    → f v ≤ sum_by f views
total_at f [] port v e = absurd (some-ne-none v (sym e))
total_at f (x ∷ xs) zero v e = grind (arith, common_steps, sum_by-cons, some-injective)
total_at f (x ∷ xs) (suc port) v e = grind (arith, common_steps, sum_by-cons, total_at f xs port v e)

-- where one view has all of f, and g is 0 wherever f is, it has all of g
total_none : (f g : View → ℕ) (views : List View)
    → ((port : ℕ) (v : View) → get_elem? views port ≡ some v → f v ≡ 0 → g v ≡ 0) → sum_by f views ≡ 0
    → sum_by g views ≡ 0
total_none f g [] h e = refl
total_none f g (x ∷ xs) h e = let fs = sum_by-cons f x xs in let gs = sum_by-cons g x xs in
    let here : g x ≡ 0 = h 0 x refl (omega arith) in
    let rest = total_none f g xs (λ j v at. h (suc j) v at) (omega arith) in omega arith

pub total_only : (f g : View → ℕ) (views : List View) (port : ℕ) (v : View)
    → ((j : ℕ) (u : View) → get_elem? views j ≡ some u → f u ≡ 0 → g u ≡ 0) → get_elem? views port ≡ some v
    → sum_by f views ≡ f v → sum_by g views ≡ g v
total_only f g [] port v h at e = absurd (some-ne-none v (sym at))
total_only f g (x ∷ xs) zero v h at e = let fs = sum_by-cons f x xs in let gs = sum_by-cons g x xs in
    let f_same : f x ≡ f v = ap f (some-injective x v at) in let g_same : g x ≡ g v = ap g (some-injective x v at) in
    let rest = total_none f g xs (λ j u there. h (suc j) u there) (omega arith) in omega arith
total_only f g (x ∷ xs) (suc port) v h at e = let fs = sum_by-cons f x xs in let gs = sum_by-cons g x xs in
    let most = total_at f xs port v at in let here : g x ≡ 0 = h 0 x refl (omega arith) in
    let rest = total_only f g xs port v (λ j u there. h (suc j) u there) at (omega arith) in omega arith

pub total_le : (f g : View → ℕ) (views : List View)
    → ((port : ℕ) (v : View) → get_elem? views port ≡ some v → f v ≤ g v) → sum_by f views ≤ sum_by g views
total_le f g [] h = omega arith
total_le f g (x ∷ xs) h =
    omega (arith, sum_by-cons f x xs, sum_by-cons g x xs, h 0 x refl, total_le f g xs (λ j v at. h (suc j) v at))

pub top_set : (f : View → ℕ) (views : List View) (port : ℕ) (v w : View) → get_elem? views port ≡ some v → f v ≤ f w
    → top f (set views port w) ≡ max (top f views) (f w)
top_set f [] port v w at h = absurd (some-ne-none v (sym at))
top_set f (x ∷ xs) zero v w at h = let same : f x ≡ f v = ap f (some-injective x v at) in omega arith
top_set f (x ∷ xs) (suc port) v w at h = let rest = top_set f xs port v w at h in omega arith

pub top_at : (f : View → ℕ) (views : List View) (port : ℕ) (v : View) → get_elem? views port ≡ some v
    → f v ≤ top f views
top_at f [] port v at = absurd (some-ne-none v (sym at))
top_at f (x ∷ xs) zero v at = let same : f x ≡ f v = ap f (some-injective x v at) in omega arith
top_at f (x ∷ xs) (suc port) v at = let rest = top_at f xs port v at in omega arith

pub top_snoc : (f : View → ℕ) (views : List View) (w : View) → f w ≡ 0 → top f (views ++ w ∷ []) ≡ top f views
top_snoc f [] w h = omega arith
top_snoc f (x ∷ xs) w h = let rest = top_snoc f xs w h in omega arith

-- the greatest value stays where the view that changes keeps its own
pub top_kept : (f : View → ℕ) (views : List View) (port : ℕ) (v w : View) → get_elem? views port ≡ some v → f w ≡ f v
    → top f (set views port w) ≡ top f views
top_kept f views port v w at same = grind (arith, common_steps, top_set, top_at)

top_below_total : (f : View → ℕ) (views : List View) → top f views ≤ sum_by f views
top_below_total f [] = omega arith
top_below_total f (x ∷ xs) = let rest = top_below_total f xs in let all = sum_by-cons f x xs in omega arith

pub top_only : (f g : View → ℕ) (views : List View) (port : ℕ) (v : View)
    → ((j : ℕ) (u : View) → get_elem? views j ≡ some u → f u ≡ 0 → g u ≡ 0) → get_elem? views port ≡ some v
    → sum_by f views ≡ f v → top g views ≡ g v
top_only f g views port v h at e = grind (arith, common_steps, total_only, top_below_total, top_at)

-- a fact of each element in its place, where one element changes
pub set_each : {X : Type 0} (P : ℕ → X → Type 0) (xs : List X) (i : ℕ) (x : X) → P i x
    → ((j : ℕ) (y : X) → j ≢ i → get_elem? xs j ≡ some y → P j y) → (j : ℕ) (y : X)
    → get_elem? (set xs i x) j ≡ some y → P j y
set_each P xs i x mine others j y there = grind (arith, common_steps, at_set)

-- and where one comes to them
pub snoc_each : {X : Type 0} (P : ℕ → X → Type 0) (xs : List X) (x : X)
    → ((j : ℕ) (y : X) → get_elem? xs j ≡ some y → P j y) → P (length xs) x → (j : ℕ) (y : X)
    → get_elem? (xs ++ x ∷ []) j ≡ some y → P j y
snoc_each P [] x all mine zero y e = subst (P 0) (some-injective x y e) mine
snoc_each P [] x all mine (suc j) y e = absurd (some-ne-none y (sym e))
snoc_each P (z ∷ xs) x all mine zero y e = all 0 y e
snoc_each P (z ∷ xs) x all mine (suc j) y e =
    snoc_each (λ n. P (suc n)) xs x (λ n w at. all (suc n) w at) mine j y e

-- the greatest value after one view changed, whether its own rises or falls
pub top_change : (f : View → ℕ) (views : List View) (port : ℕ) (v w : View) → get_elem? views port ≡ some v
    → max (top f (set views port w)) (f v) ≡ max (top f views) (f w)
top_change f [] port v w at = absurd (some-ne-none v (sym at))
top_change f (x ∷ xs) zero v w at = let same : f x ≡ f v = ap f (some-injective x v at) in omega arith
top_change f (x ∷ xs) (suc port) v w at = let rest = top_change f xs port v w at in omega arith
