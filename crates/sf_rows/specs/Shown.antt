-- What is shown of a tree: rows, each by itself, or call by call.
use Rattle.std.specs.Prelude.{◌≡◌, ℕ, ◌+◌, Bool, true, List, [], ◌∷◌, length, map, if◌then◌else◌, Option, Some, None}
use Rattle.sf_rows.specs.Common.{flat_map, list_any, option_map_or, bytes_eq, Tree, RowData, CallData, NamesData, Subject}
use Rattle.sf_rows.specs.Trees.{IsTreeOf, unnamed_number}
use Rattle.sf_rows.specs.Rows.{rows_of, rows_of_call, hidden_number}

-- a row of a call: the name of the call's set, the call's name, and the row
pub record CallRowData : Type 0 where
  pub set : List ℕ
  pub name : List ℕ
  pub row : RowData

-- the rows that are shown call by call, if any are; and those that are shown each by itself
pub record ShownData : Type 0 where
  pub calls : Option (List CallRowData)
  pub rows : List RowData

-- how many rows are shown
abbrev pub shown_count : ShownData → ℕ
shown_count shown = option_map_or length shown.calls 0 + length shown.rows

-- a call is asked for: its name is among those that are asked for, or none is
abbrev pub is_wanted : List (List ℕ) → CallData → Bool
is_wanted [] c = true
is_wanted names c = list_any (bytes_eq c.name) names

-- a row as one of a call of a set
abbrev pub call_row : NamesData → CallData → RowData → CallRowData
call_row n c r = record { set = n.set; name = c.name; row = r }

-- the rows of a call of a set, if it is asked for
abbrev pub rows_if_wanted : List (List ℕ) → Subject → Tree → NamesData → CallData → List CallRowData
rows_if_wanted wanted s t n c =
    if is_wanted wanted c then map (call_row n c) (rows_of_call s t n.arch c.number) else []

-- the rows of the calls that are asked for: set after set, and in a set by the calls' numbers
abbrev pub call_rows : List (List ℕ) → Subject → Tree → List NamesData → List CallRowData
call_rows wanted s t sets = flat_map (λ (n : NamesData). flat_map (rows_if_wanted wanted s t n) n.calls) sets

-- The rows that are shown beside those of calls. Where all calls are shown, these are the rows of the inputs of calls
-- without a name, and so nothing is left out. Where calls are asked for by name, there are none.
abbrev pub AreOthers : List (List ℕ) → Subject → Tree → List NamesData → List RowData → Type 0
AreOthers [] s t sets rows =
    (rest : Tree) × IsTreeOf (unnamed_number sets (hidden_number s) t) rest × (rows ≡ rows_of s rest)
AreOthers (w ∷ ws) s t sets rows = rows ≡ []

-- What is shown of a tree. `calls` says how: None, each row by itself; else call by call, for the calls that it names,
-- or for all calls where it names none.
abbrev pub IsShown : Option (List (List ℕ)) → Subject → Tree → List NamesData → ShownData → Type 0
IsShown None s t sets shown = shown ≡ record { calls = None; rows = rows_of s t }
IsShown (Some wanted) s t sets shown =
    (shown.calls ≡ Some (call_rows wanted s t sets)) × AreOthers wanted s t sets shown.rows
