-- The file of groups by which a summary puts questions in order.
use Rattle.std.specs.Prelude.{◌≡◌, ◌⊎◌, ℕ, Bool, false, List, [], Option, Some, None, codes}
use Rattle.sf_evaluate.specs.Common.{IsUtf8, AreGroups, GroupData, groups_in, Fault, Memory, Read, Syntax}
use Rattle.sf_evaluate.specs.Files.{AreKnownBytes}

-- the path of the groups that are installed
abbrev pub installed_groups : List ℕ
installed_groups = codes "@groups"

-- the groups of the file, if there is one for them: its bytes, which may be known, mean these; or it wasn't given, it
-- can't be read, and there are none
abbrev pub AreGroupsIn : (List ℕ → Option (List ℕ)) → Option (List ℕ) → (is_given : Bool) → List GroupData → Type 0
AreGroupsIn holds None is_given groups = groups ≡ []
AreGroupsIn holds (Some path) is_given groups =
    ((bytes : List ℕ) × AreKnownBytes (holds path) bytes × AreGroups bytes groups)
    ⊎ ((is_given ≡ false) × (holds path ≡ None) × (groups ≡ []))

-- why the bytes are no groups: they are no UTF-8, or no file of groups
abbrev pub AreNoGroups : List ℕ → Fault → Type 0
AreNoGroups bytes fault = (fault ≡ Syntax) × ((IsUtf8 bytes → ⊥) ⊎ (groups_in bytes ≡ None))

-- Why groups are refused: memory ran out; their file, whose bytes aren't known, can't be read; or it has no groups.
abbrev pub RefusesGroups : (List ℕ → Option (List ℕ)) → Option (List ℕ) → Fault → Type 0
RefusesGroups holds groups fault =
    (fault ≡ Memory)
    ⊎ ((path : List ℕ) × (groups ≡ Some path)
    × (((fault ≡ Read) × (holds path ≡ None))
    ⊎ ((bytes : List ℕ) × AreKnownBytes (holds path) bytes × AreNoGroups bytes fault)))
