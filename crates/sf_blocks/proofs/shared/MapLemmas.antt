-- Lists in which each element is replaced by what a function gives of it.
use Rattle.sf_blocks.proofs.Common.{◌≡◌, ℕ, zero, suc, ◌<◌, List, [], ◌∷◌, length, map, get_or, refl, sym, ap, arith}

-- an element of a list in which each is replaced by what f gives of it
pub get_or-map_at : {A B : Type 0} (f : A → B) (xs : List A) (i : ℕ) (x : A) (e : B) → i < length xs → x ≡ get_or xs i x
    → get_or (map f xs) i e ≡ f x
get_or-map_at f [] i x e h s = absurd (omega arith)
get_or-map_at f (y ∷ ys) zero x e h s = ap f (sym s)
get_or-map_at f (y ∷ ys) (suc i) x e h s = get_or-map_at f ys i x e (omega arith) s

pub length-map_of : {A B : Type 0} (f : A → B) (xs : List A) → length (map f xs) ≡ length xs
length-map_of f [] = refl
length-map_of f (x ∷ xs) = ap suc (length-map_of f xs)
