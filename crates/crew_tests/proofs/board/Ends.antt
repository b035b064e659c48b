-- The last element of a list, and those before it.
use Rattle.std.proofs.Common.{suc, List, [], ◌∷◌, ◌++◌, All, subst, length-append, arith}
use Rattle.std.proofs.lemmas.List.{get_or_append_left}

pub last_of : {X : Type 0} (P : X → Type 0) (xs : List X) (x : X) → All P (xs ++ x ∷ []) → P x
last_of P [] x h = h 0 x (omega arith)
last_of P (y ∷ xs) x h = last_of P xs x (λ k d lt. h (suc k) d (omega arith))

pub others_of : {X : Type 0} (P : X → Type 0) (xs : List X) (x : X) → All P (xs ++ x ∷ []) → All P xs
others_of P xs x h = λ k d lt. subst P (get_or_append_left xs (x ∷ []) d k lt)
    (h k d (omega (arith, length-append xs (x ∷ []))))
