-- Folds over two lists, and lists that are joined one after the other.
use Rattle.sf_profile.proofs.Common.{◌≡◌, ◌∙◌, ◌<◌, ◌+◌, ℕ, suc, zero, List, [], ◌∷◌, ◌++◌, append_assoc, append-nil, ap, fold, get_or, length, refl, sym, take, arith, flat_map}

pub fold_both : {X A : Type 0} (f : A → X → A) (a : A) (xs ys : List X) → fold f a (xs ++ ys) ≡ fold f (fold f a xs) ys
fold_both f a [] ys = refl
fold_both f a (x ∷ xs) ys = fold_both f (f a x) xs ys

one_more : {A B : Type 0} (f : A → List B) (xs : List A) (i : ℕ) (x : A) → i < length xs
    → flat_map f (take i xs) ++ f (get_or xs i x) ≡ flat_map f (take (i + 1) xs)
one_more f [] i x h = absurd (omega arith)
one_more f (y ∷ ys) zero x h = sym (append-nil (f y))
one_more f (y ∷ ys) (suc i) x h =
    let e : suc i + 1 ≡ suc (i + 1) = omega arith in
    rw e (append_assoc (f y) (flat_map f (take i ys)) (f (get_or ys i x))
    ∙ ap (λ r. f y ++ r) (one_more f ys i x (omega arith)))

-- what one more element makes comes behind
pub appended : {A B : Type 0} (f : A → List B) (xs : List A) (i : ℕ) (x : A) (made more all : List B) → i < length xs
    → x ≡ get_or xs i x → made ≡ flat_map f (take i xs) → more ≡ f x → all ≡ made ++ more
    → all ≡ flat_map f (take (i + 1) xs)
appended f xs i x made more all h is so_far next joined =
    joined ∙ rw (so_far, next) (ap (λ r. flat_map f (take i xs) ++ f r) is ∙ one_more f xs i x h)
