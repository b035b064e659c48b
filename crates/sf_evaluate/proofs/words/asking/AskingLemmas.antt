-- What is given of the options of `eval`, and why an input isn't asked for.
use Rattle.sf_evaluate.proofs.Common.{and_left, and_right, length-map, arith, ◌≡◌, ◌⊎◌, false, not, List, Option, Some, None, Bor, ap, inl, inr, length, map, is_ok, is_some, nat_lt, option_map, ◌==◌, Row, Text, text_of, NamesData, read_arguments, Fault, Input, UnknownName, LacksName, is_given, is_nr_narrow, numbers_fit}
use Rattle.std.specs.Prelude.{codes}

-- a reading is there just where what is read is
pub read_some : {X Y : Type 0} (v : X → Y) (r : Option X) (t : Option Y) → option_map v r ≡ t → is_some r ≡ is_some t
read_some v None t is = ap is_some is
read_some v (Some x) t is = ap is_some is

-- a list has elements where the list that is read of it has some
pub some_read : (xs : List (Bor Text)) (texts : List Text) → map (λ x. x.now) xs ≡ texts
    → not (length xs == 0) ≡ nat_lt 0 (length texts)
some_read xs texts are = grind (arith, length-map)

-- where the arguments aren't read, or a number is too wide, no input is spelled
pub misspelled : (rows : List Row) (names : List NamesData) (e : Fault) → is_given (codes "input") rows ≡ false
    → ((e ≡ Input) × ((is_ok (read_arguments (text_of (codes "args") rows)) ≡ false) ⊎ (is_nr_narrow rows ≡ false)))
    ⊎ ((e ≡ UnknownName) × LacksName rows names)
    → ((e ≡ Input) × (numbers_fit rows ≡ false)) ⊎ ((e ≡ UnknownName) × LacksName rows names)
misspelled rows names e absent (inl (input, inl args)) = inl (input, rw absent (and_left _ _ args))
misspelled rows names e absent (inl (input, inr wide)) = inl (input, rw absent (and_right _ _ wide))
misspelled rows names e absent (inr unknown) = inr unknown
