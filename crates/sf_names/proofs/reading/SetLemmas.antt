-- The calls of a set and the sets of a file, one more at a time.
use Rattle.sf_names.proofs.Common.{arith, ◌≡◌, length, List, [], ◌∷◌, ◌++◌, ◌&&◌, append_assoc, Result, Ok, Err, refl, ap, sym, ◌∙◌, String, Global, string_bytes, list_all, keys_of, members_view, Value, Fault, HaveOrderedCalls, GivesSet, IsOrdered, NamesData, has_names_keys, is_names_key, list_of_one_set, key_count, set_cons}

-- the keys of a set, at the list that the code goes through
pub keys_view : (es : List (String Global × Value))
    → has_names_keys (members_view es) ≡ list_all (λ key. is_names_key (string_bytes key)) (keys_of es)
keys_view [] = refl
keys_view (e ∷ es) = ap (λ b. is_names_key (string_bytes e.0) && b) (keys_view es)

-- the number of a table's keys, at the list that the code counts
pub count_view : (es : List (String Global × Value)) → key_count (members_view es) ≡ length es
count_view [] = refl
count_view (e ∷ es) = let rest = count_view es in omega (arith, rest)

-- what was read, in front of what is left
abbrev pub with_front : {X : Type 0} → List X → Result (List X) Fault → Result (List X) Fault
with_front front (Ok rest) = Ok (front ++ rest)
with_front front (Err fault) = Err fault

-- Of the sets of a file these were read, with the calls by their numbers; the rest is left.
pub record SetsSoFar (whole : Result (List NamesData) Fault) (sets : List NamesData)
    (rest : Result (List NamesData) Fault) : Type 0 where
  pub files : List NamesData
  pub due : whole ≡ with_front files rest
  pub ordered : HaveOrderedCalls files sets

with_sets_cons : (front : List NamesData) (n : NamesData) (r : Result (List NamesData) Fault)
    → with_front front (set_cons (Ok n) r) ≡ with_front (front ++ n ∷ []) r
with_sets_cons front n (Ok rest) = ap Ok (sym (append_assoc front (n ∷ []) rest))
with_sets_cons front n (Err fault) = refl

ordered_more : (files sets : List NamesData) (file names : NamesData) → HaveOrderedCalls files sets
    → IsOrdered file names
    → HaveOrderedCalls (files ++ file ∷ []) (sets ++ names ∷ [])
ordered_more [] [] file names before one = (one, tt)
ordered_more (f ∷ files) (n ∷ sets) file names before one = (before.0, ordered_more files sets file names before.1 one)
ordered_more [] (n ∷ sets) file names before one = absurd before
ordered_more (f ∷ files) [] file names before one = absurd before

-- one set more was read
pub one_set_more : (whole : Result (List NamesData) Fault) (sets more : List NamesData) (due : Result NamesData Fault)
    (rest : Result (List NamesData) Fault) (names : NamesData) → SetsSoFar whole sets (set_cons due rest)
    → GivesSet (Ok names) due → more ≡ sets ++ names ∷ [] → SetsSoFar whole more rest
one_set_more whole sets more due rest names so_far gives pushed = record {
  files = so_far.files ++ gives.0 ∷ [];
  due = so_far.due ∙ ap (λ d. with_front so_far.files (set_cons d rest)) gives.1
      ∙ with_sets_cons so_far.files gives.0 rest;
  ordered = rw pushed (ordered_more so_far.files sets gives.0 names so_far.ordered gives.2);
}

-- a set alone
pub alone : (due : Result NamesData Fault) (names : NamesData) (sets : List NamesData) → GivesSet (Ok names) due
    → sets ≡ names ∷ [] → (files : List NamesData) × (list_of_one_set due ≡ Ok files) × HaveOrderedCalls files sets
alone due names sets gives same =
    (gives.0 ∷ [], ap list_of_one_set gives.1, rw same (gives.2, tt))
