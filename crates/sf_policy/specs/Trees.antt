-- Reading a TOML tree.
use Rattle.std.specs.Prelude.{ℕ, ℤ, List, [], ◌∷◌, Option, Some, None, option_and_then}
use Rattle.sf_policy.specs.Common.{Data, Items, no_items, item, Members, get_member, as_str, as_integer, as_table}

-- what was read of one value before what was read of the others; nothing where either can't be read
abbrev pub option_cons : {X : Type 0} → Option X → Option (List X) → Option (List X)
option_cons (Some x) (Some xs) = Some (x ∷ xs)
option_cons _ _ = None

-- what is read of each value, in order; nothing where one of them can't be read
abbrev pub each_of : {X Y : Type 0} → (X → Option Y) → List X → Option (List Y)
each_of read [] = Some []
each_of read (x ∷ xs) = option_cons (read x) (each_of read xs)

-- the items of an array
abbrev pub item_list : Items → List Data
item_list no_items = []
item_list (item d ds) = d ∷ item_list ds

-- an array of texts
abbrev pub texts_of : Items → Option (List (List ℕ))
texts_of ds = each_of as_str (item_list ds)

-- an array of tables
abbrev pub tables_of : Items → Option (List Members)
tables_of ds = each_of as_table (item_list ds)

-- the whole number at a key
abbrev pub number_at : List ℕ → Members → Option ℤ
number_at key ms = option_and_then as_integer (get_member key ms)

-- the whole number at a key, or a given one where the key is absent
abbrev pub number_or : ℤ → Option Data → Option ℤ
number_or absent None = Some absent
number_or absent (Some d) = as_integer d

-- the text at a key
abbrev pub text_at : List ℕ → Members → Option (List ℕ)
text_at key ms = option_and_then as_str (get_member key ms)
