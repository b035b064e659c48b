-- Names that were written one after the other.
use Rattle.std.proofs.lemmas.Grind.{common_steps}
use Rattle.std.proofs.Common.{arith}
use Rattle.std.proofs.Common.{◌≡◌, ℕ, ◌<◌, ◌+◌, List, [], ◌∷◌, ◌++◌, append_assoc, append-nil, ap, ◌∙◌, refl, sym, take, get_or, length}
use Rattle.std.specs.List.{flat_map}
use Rattle.std.proofs.lemmas.List.{take_more}
use Rattle.std.proofs.lemmas.List.Concat.{flat_map-append}
use Rattle.sf_names.specs.Names.{count_after, count_more, next_name_words, names_words}

-- the words of names, and then those of more names
pub words_append : (count : ℕ) (xs ys : List (List ℕ))
    → names_words count (xs ++ ys) ≡ names_words count xs ++ names_words (count_after count xs) ys
words_append count [] ys = refl
words_append count (x ∷ xs) ys =
    ap (λ l. next_name_words count x ++ l) (words_append (count_more count) xs ys)
    ∙ sym (append_assoc (next_name_words count x) (names_words (count_more count) xs)
    (names_words (count_after (count_more count) xs) ys))

-- how many were told after names, and then after more names
pub count_append : (count : ℕ) (xs ys : List (List ℕ))
    → count_after count (xs ++ ys) ≡ count_after (count_after count xs) ys
count_append count [] ys = refl
count_append count (x ∷ xs) ys = count_append (count_more count) xs ys

-- the names of one element more
pub names_more : {X : Type 0} (f : X → List (List ℕ)) (xs : List X) (i : ℕ) (d : X) → i < length xs
    → flat_map f (take (i + 1) xs) ≡ flat_map f (take i xs) ++ f (get_or xs i d)
names_more f xs i d lt = grind (arith, common_steps, take_more, flat_map-append, append-nil)

-- the names of one element more were written
pub words_more : {X : Type 0} (f : X → List (List ℕ)) (count told : ℕ) (text middle after : List ℕ) (xs : List X)
    (i : ℕ) (d : X) → i < length xs → told ≡ count_after count (flat_map f (take i xs))
    → middle ≡ text ++ names_words count (flat_map f (take i xs))
    → after ≡ middle ++ names_words told (f (get_or xs i d))
    → after ≡ text ++ names_words count (flat_map f (take (i + 1) xs))
words_more f count told text middle after xs i d lt t m a =
    grind (arith, common_steps, names_more, words_append, append_assoc)

-- so many names were told then
pub told_more : {X : Type 0} (f : X → List (List ℕ)) (count told next : ℕ) (xs : List X) (i : ℕ) (d : X)
    → i < length xs → told ≡ count_after count (flat_map f (take i xs))
    → next ≡ count_after told (f (get_or xs i d))
    → next ≡ count_after count (flat_map f (take (i + 1) xs))
told_more f count told next xs i d lt t n = grind (arith, common_steps, names_more, count_append)
