-- Reading a JSON tree.
use Rattle.std.specs.Prelude.{ℕ, ℤ, Bool, true, false, not, ◌&&◌, if◌then◌else◌, List, [], ◌∷◌, map, Option, Some, None, is_some, option_and_then, option_map, unwrap_or}
use Rattle.sf_profile.specs.Common.{list_any, list_all, bytes_eq, Data, array, object, Members, no_members, member, as_null, as_str, as_number, as_integer}
use Rattle.serde_json.specs.Data.{Items, no_items, item}
use Rattle.serde_json.specs.Find.{get}

-- a value, where it isn't null, which is as if the key were absent
abbrev pub given : Option Data → Option Data
given None = None
given (Some d) = if is_some (as_null d) then None else Some d

-- what an object has at a key
abbrev pub at : List ℕ → Data → Option Data
at key d = given (get key d)

-- a key without a value
abbrev pub is_absent : List ℕ → Data → Bool
is_absent key d = not (is_some (at key d))

-- the items of an array
abbrev pub items_in : Items → List Data
items_in no_items = []
items_in (item d ds) = d ∷ items_in ds

-- the items at a key, none where there is no array
abbrev pub listed : Option Data → List Data
listed (Some (array ds)) = items_in ds
listed _ = []

-- the key is absent, or its value passes
abbrev pub absent_or : (Data → Bool) → Option Data → Bool
absent_or test None = true
absent_or test (Some d) = test d

abbrev pub is_text : Data → Bool
is_text d = is_some (as_str d)

-- an array whose items all pass
abbrev pub is_list_of : (Data → Bool) → Data → Bool
is_list_of test (array ds) = list_all test (items_in ds)
is_list_of test _ = false

-- a whole number, where the value is one: none with a point, with an exponent, or beyond 64 bits
abbrev pub whole_in : Data → Option ℤ
whole_in d = option_and_then as_integer (as_number d)

-- the text of a value, empty where it is none
abbrev pub text_in : Data → List ℕ
text_in d = unwrap_or (as_str d) []

-- the text at a key, where there is one
abbrev pub text_at : List ℕ → Data → Option (List ℕ)
text_at key d = option_and_then as_str (at key d)

-- the texts of an array that has nothing else
abbrev pub texts_among : Items → Option (List (List ℕ))
texts_among ds = if list_all is_text (items_in ds) then Some (map text_in (items_in ds)) else None

abbrev pub texts_of : Data → Option (List (List ℕ))
texts_of (array ds) = texts_among ds
texts_of _ = None

-- the texts at a key, none where it is absent
abbrev pub texts_or_none : Option Data → Option (List (List ℕ))
texts_or_none None = Some []
texts_or_none (Some d) = texts_of d

-- the whole number at a key, where there is one
abbrev pub whole_where : Option Data → Option ℤ
whole_where None = None
whole_where (Some d) = whole_in d

-- the same, or this one where the key is absent
abbrev pub whole_or : ℤ → Option Data → Option ℤ
whole_or absent None = Some absent
whole_or absent (Some d) = whole_in d

-- the whole number at a key that may be absent
abbrev pub maybe_whole : Option Data → Option (Option ℤ)
maybe_whole None = Some None
maybe_whole (Some d) = option_map Some (whole_in d)

-- the test is true of each key of the members
abbrev pub all_keys : (List ℕ → Bool) → Members → Bool
all_keys test no_members = true
all_keys test (member key d rest) = test key && all_keys test rest

-- an object, of each key of which the test is true
abbrev pub is_object_with : (List ℕ → Bool) → Data → Bool
is_object_with test (object ms) = all_keys test ms
is_object_with test _ = false

-- an object that has only these keys
abbrev pub is_object_of : List (List ℕ) → Data → Bool
is_object_of keys d = is_object_with (λ key. list_any (bytes_eq key) keys) d
