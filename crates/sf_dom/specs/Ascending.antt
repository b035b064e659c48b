-- Numbers in ascending order, sets of numbers, and what is shared.
use Rattle.std.specs.Prelude.{◌≡◌, ℕ, ◌<◌, ◌≤◌, ◌^◌, bit_or, List, [], ◌∷◌, ◌++◌, length, slice_index, Contains, Option, Some, None}
use Rattle.sf_dom.specs.Common.{arc_value, arc_slice_items, Arc, ArcSlice, Found, Older, Newer, Nowhere}

-- none is less than one before it
abbrev pub AreAscending : List ℕ → Type 0
AreAscending xs = (i j : ℕ) → i ≤ j → j < length xs → slice_index xs i ≤ slice_index xs j

-- where a number was found: at this place of the older of two lists, in the newer one, or in neither
abbrev pub IsFound : List ℕ → List ℕ → ℕ → Found → Type 0
IsFound xs ys n (Older i) = (i < length xs) × (slice_index xs i ≡ n)
IsFound xs ys n Newer = Contains ys n
IsFound xs ys n Nowhere = ¬ Contains (xs ++ ys) n

-- the set of the numbers of a list
abbrev pub set_of : List ℕ → ℕ
set_of [] = 0
set_of (x ∷ xs) = bit_or (2 ^ x) (set_of xs)

-- the set of the numbers that are shared, and the empty one where nothing is
abbrev pub shared_numbers : {Z : Type 0} → Option (Arc ℕ Z) → ℕ
shared_numbers None = 0
shared_numbers (Some numbers) = arc_value numbers

-- the items of a list that is shared, and none where there is no list
abbrev pub shared_items : {Z : Type 0} → Option (ArcSlice ℕ Z) → List ℕ
shared_items None = []
shared_items (Some list) = arc_slice_items list
