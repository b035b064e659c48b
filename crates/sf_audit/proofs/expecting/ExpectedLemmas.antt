-- A test of texts, seen as a test of strings.
use Rattle.sf_audit.proofs.Common.{◌≡◌, ◌||◌, Bool, List, [], ◌∷◌, ap, map, refl, list_any}

-- some element passes a test of what is seen of it, where some of what is seen passes
pub any_seen : {X Y : Type 0} (f : Y → Bool) (g : X → Y) (xs : List X)
    → list_any (λ x. f (g x)) xs ≡ list_any f (map g xs)
any_seen f g [] = refl
any_seen f g (x ∷ xs) = ap (λ b. f (g x) || b) (any_seen f g xs)
