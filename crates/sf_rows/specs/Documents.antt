-- Rows as JSON.
use Rattle.std.specs.Prelude.{ℕ, List, [], ◌∷◌, codes, map, Option, Some, None}
use Rattle.sf_rows.specs.Common.{Data, boolean, null, string, NamesData, answer_document, count, fields, list_of, with_field, answer_with, Span, ConditionData, RowData, Subject, Stack, Change}
use Rattle.sf_rows.specs.Rows.{before_of, after_of}
use Rattle.sf_rows.specs.Shown.{CallRowData, ShownData, shown_count}
use Rattle.sf_rows.specs.Lines.{row_names, word_words}

-- numbers from a first one to a last one
abbrev pub range_document : Span → Data
range_document s = list_of (count s.first ∷ count s.last ∷ [])

-- a condition: on these bits of this word an input has a number of these ranges, or, with `not`, none of them
abbrev pub condition_document : ConditionData → Data
condition_document c = fields (
    (codes "mask", count c.form.mask)
    ∷ (codes "not", boolean c.form.without)
    ∷ (codes "ranges", list_of (map range_document c.form.spans))
    ∷ (codes "word", string (word_words c.word)) ∷ [])

-- an object, and what the number of a row says: the answer, or the old one and the new one
abbrev pub with_answers : Subject → ℕ → Data → Data
with_answers Stack n d = with_field (codes "answer") (answer_document (answer_with n)) d
with_answers Change n d = with_field (codes "new") (answer_document (after_of n))
    (with_field (codes "old") (answer_document (before_of n)) d)

-- a row: its conditions, what its number says, and the names of the calls in it
abbrev pub row_document : Subject → List NamesData → RowData → Data
row_document s sets r = with_answers s r.number (fields (
    (codes "calls", list_of (map string (row_names sets r.conditions)))
    ∷ (codes "conditions", list_of (map condition_document r.conditions)) ∷ []))

-- a row of a call: the set and the name of the call, the row's conditions, and what its number says
abbrev pub call_row_document : Subject → CallRowData → Data
call_row_document s r = with_answers s r.row.number (fields (
    (codes "call", string r.name)
    ∷ (codes "conditions", list_of (map condition_document r.row.conditions))
    ∷ (codes "set", string r.set) ∷ []))

-- the rows that are shown call by call; null where none are
abbrev pub calls_document : Subject → Option (List CallRowData) → Data
calls_document s None = null
calls_document s (Some rows) = list_of (map (call_row_document s) rows)

-- an object, and what is shown: rows of calls, rows, and how many there are
abbrev pub with_rows : Subject → List NamesData → ShownData → Data → Data
with_rows s sets shown d = with_field (codes "total") (fields ((codes "rows", count (shown_count shown)) ∷ []))
    (with_field (codes "rows") (list_of (map (row_document s sets) shown.rows))
    (with_field (codes "calls") (calls_document s shown.calls) d))
