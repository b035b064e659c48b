-- Two lists that belong together, place by place, where both get one element more.
use Rattle.sf_evaluate.proofs.Common.{◌≡◌, ℕ, zero, suc, ◌+◌, ◌<◌, List, [], ◌∷◌, ◌++◌, ◌∙◌, ap, arith, common_steps, flat_map, get_or, length, length_push, refl, same_Some, slice_get, Some, take, take_more, Pairwise, flat_map_more, ◌⊎◌, inl, inr, sym}

get_pushed : {X : Type 0} (xs : List X) (x : X) (n : ℕ) (z : X) → slice_get (xs ++ x ∷ []) n ≡ Some z
    → (slice_get xs n ≡ Some z) ⊎ ((n ≡ length xs) × (z ≡ x))
get_pushed [] x zero z at = inr (refl, sym (same_Some x z at))
get_pushed [] x (suc n) z at = absurd cc
get_pushed (a ∷ xs) x zero z at = inl at
get_pushed (a ∷ xs) x (suc n) z at = elim (get_pushed xs x n z at) [
  | inl front ↦ inl front
  | inr (is, same) ↦ inr (ap suc is, same)
]

get_front : {X : Type 0} (xs ys : List X) (n : ℕ) (x : X) → slice_get xs n ≡ Some x → slice_get (xs ++ ys) n ≡ Some x
get_front [] ys n x h = absurd cc
get_front (a ∷ xs) ys zero x h = h
get_front (a ∷ xs) ys (suc n) x h = get_front xs ys n x h

get_last : {X : Type 0} (xs : List X) (x : X) → slice_get (xs ++ x ∷ []) (length xs) ≡ Some x
get_last [] x = refl
get_last (a ∷ xs) x = get_last xs x

one_pair : {X Y : Type 0} (Holds : X → Y → Type 0) (xs : List X) (ys : List Y) (x : X) (y : Y)
    → Pairwise Holds xs ys → Holds x y → Pairwise Holds (xs ++ x ∷ []) (ys ++ y ∷ [])
one_pair {X} {Y} Holds xs ys x y pairs holds = grind (arith, common_steps, length_push, get_pushed, get_last, get_front)

-- the second list belongs to the first places of the first one, and so it does with one place more
pub paired_more : {X Y : Type 0} (Holds : X → Y → Type 0) (xs : List X) (ys : List Y) (place : ℕ) (d : X) (y : Y)
    → Pairwise Holds (take place xs) ys → place < length xs → Holds (get_or xs place d) y
    → Pairwise Holds (take (place + 1) xs) (ys ++ y ∷ [])
paired_more Holds xs ys place d y pairs inside holds =
    rw (take_more xs place d inside) (one_pair Holds (take place xs) ys (get_or xs place d) y pairs holds)

-- a list that is built part by part, and one part more
pub parts_more : {X Y : Type 0} (part : X → List Y) (files : List X) (file : X) (whole more : List Y)
    → whole ≡ flat_map part files → more ≡ whole ++ part file → more ≡ flat_map part (files ++ file ∷ [])
parts_more part files file whole more is added = added ∙ ap (λ l. l ++ part file) is ∙ flat_map_more part [] files file
