-- Where a key comes twice in a text: which fault that is.
use Rattle.std.specs.Prelude.{◌≡◌, ◌⊎◌, ℕ, ◌+◌, ◌≤◌, List, codes, if◌then◌else◌, Option, Some, None, option_and_then}
use Rattle.sf_profile.specs.Common.{Json, Items, no_items, item, max_depth, get, is_null, HasUniqueKeys, depth, items_depth, HasNumbers, ItemsHaveNumbers, Fault}
use Rattle.json.specs.Json.{array}
use Rattle.sf_profile.specs.declared.fault.Fault.TheVariants as faults

-- a value, where it isn't null, which is as if the key were absent
abbrev pub unless_null : Option Json → Option Json
unless_null None = None
unless_null (Some j) = if is_null j then None else Some j

-- the last value that an object has at a key
abbrev pub last_at : List ℕ → Json → Option Json
last_at key j = unless_null (get key j)

-- where the profile stands: `seccomp` of `linux`, or the whole file where there is no `linux`
abbrev pub profile_below : Option Json → Json → Option Json
profile_below None whole = Some whole
profile_below (Some linux) whole = last_at (codes "seccomp") linux

-- the items of an array, none where there is no array
abbrev pub items_where : Option Json → Items
items_where (Some (array js)) = js
items_where _ = no_items

-- the last rules that a file has
abbrev pub last_rules : Json → Items
last_rules whole =
    items_where (option_and_then (last_at (codes "syscalls")) (profile_below (last_at (codes "linux") whole) whole))

-- The fault of a file in which a key comes twice: that of the first rule in which one does, or else of the head. The
-- first of these rules has the number n.
abbrev pub IsFaultOfRepeat : ℕ → Items → Fault → Type 0
IsFaultOfRepeat n no_items fault = fault ≡ faults.Key
IsFaultOfRepeat n (item j js) fault =
    ((¬ HasUniqueKeys j) × (fault ≡ faults.RuleKey n)) ⊎ (HasUniqueKeys j × IsFaultOfRepeat (n + 1) js fault)

-- For the prover: what the kit's writer of JSON asks of a value, so that it is read back as it was.
abbrev pub IsReadBack : Json → Type 0
IsReadBack j = HasNumbers j × (depth j ≤ max_depth)

-- the same of each item
abbrev pub AreReadBack : Items → Type 0
AreReadBack js = ItemsHaveNumbers js × (items_depth js ≤ max_depth)
