-- Documents that are added one after the other.
use Rattle.sf_trace.proofs.Common.{◌≡◌, ℕ, zero, suc, List, [], ◌∷◌, ◌++◌, Some, length, slice_get, subst, same_Some}

-- what holds of each element of a list at its place, and of one more at the end, holds of the longer list
pub one_pushed : {X : Type 0} (P : ℕ → X → Type 0) (xs : List X) (x : X)
    → ((place : ℕ) (y : X) → slice_get xs place ≡ Some y → P place y) → P (length xs) x
    → (place : ℕ) (y : X) → slice_get (xs ++ x ∷ []) place ≡ Some y → P place y
one_pushed P [] x before here zero y there = subst (P 0) (same_Some x y there) here
one_pushed P [] x before here (suc n) y there = absurd cc
one_pushed P (w ∷ ws) x before here zero y there = before 0 y there
one_pushed P (w ∷ ws) x before here (suc n) y there =
    one_pushed (λ k. P (suc k)) ws x (λ k z at. before (suc k) z at) here n y there
