-- What `check` finds, as JSON. Each field is always there: one that doesn't apply is null.
use Rattle.std.specs.Prelude.{◌≡◌, ℕ, ◌+◌, Bool, true, false, List, [], ◌∷◌, codes, length, Some, slice_get}
use Rattle.sf_trace.specs.Common.{Data, null, string, Insn, path_length, count, fields, list_of}
use Rattle.sf_trace.specs.Instructions.{AreInsnLines}

-- the lines of a filter's instructions as one text, if they are listed
abbrev pub AreListedLines : (listed : Bool) → List Insn → Data → Type 0
AreListedLines true code d = (lines : List ℕ) × AreInsnLines code lines × (d ≡ string lines)
AreListedLines false code d = d ≡ null

-- a filter: its number, how many instructions it has, and their listing
abbrev pub filter_object : (number instructions : ℕ) → (listing : Data) → Data
filter_object number instructions listing = fields (
    (codes "instructions", count instructions)
    ∷ (codes "listing", listing)
    ∷ (codes "number", count number) ∷ [])

-- a filter with this number, as `check` tells it
abbrev pub IsFilterDocument : (listed : Bool) → (number : ℕ) → List Insn → Data → Type 0
IsFilterDocument listed number code d =
    (listing : Data) × AreListedLines listed code listing × (d ≡ filter_object number (length code) listing)

-- the filter at a place, counted from 0, as `check` tells it
abbrev pub IsFilterAt : (listed : Bool) → List (List Insn) → (place : ℕ) → Data → Type 0
IsFilterAt listed programs place d =
    (code : List Insn) → slice_get programs place ≡ Some code → IsFilterDocument listed (place + 1) code d

-- each filter, in order
pub record AreFilterDocuments (listed : Bool) (programs : List (List Insn)) (ds : List Data) : Type 0 where
  pub many : length ds ≡ length programs
  pub each : (place : ℕ) (d : Data) → slice_get ds place ≡ Some d → IsFilterAt listed programs place d

-- what `check` finds of a stack: its filters, and the length of the path through them
abbrev pub IsCheckDocument : (listed : Bool) → List (List Insn) → Data → Type 0
IsCheckDocument listed programs d =
    (filters : List Data) × AreFilterDocuments listed programs filters
    × (d ≡ fields (
    (codes "filters", list_of filters)
    ∷ (codes "path", count (path_length programs))
    ∷ (codes "seccomp_audit", string (codes "check"))
    ∷ (codes "version", count 1) ∷ []))
