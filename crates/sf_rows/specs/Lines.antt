-- The lines of rows.
use Rattle.std.specs.Prelude.{ℕ, ◌-◌, ◌==◌, ◌&&◌, ◌||◌, not, Bool, true, false, List, [], ◌∷◌, ◌++◌, codes, filter, find, length, map, slice_index, slice_index_or, take, Option, Some, None, nat_lt, if◌then◌else◌}
use Rattle.sf_rows.specs.Common.{flat_map, is_some, option_map_or, decimal, digits, padded_integral, format_spec, encode_lower, sha256, word_keys, answer_words, NamesData, names_between, words_in_order, answer_with, Span, FormData, ConditionData, RowData, Subject, Stack, Change, Style, Short, Arch, Call}
use Rattle.sf_rows.specs.Rows.{before_of, after_of}
use Rattle.sf_rows.specs.Shown.{CallRowData, ShownData}

-- texts, with one before the first of them, and another one before each further one
abbrev pub joined : List ℕ → List ℕ → List (List ℕ) → List ℕ
joined first next [] = []
joined first next (text ∷ texts) = first ++ (text ++ joined next next texts)

-- ---- numbers of a word

-- a number in hexadecimal, as short as it goes
abbrev pub short_words : ℕ → List ℕ
short_words n = codes "0x" ++ digits 16 true n

-- a number: of an architecture with eight digits; of a call in decimal, if it is below 65,536
abbrev pub number_words : Style → ℕ → List ℕ
number_words Short n = short_words n
number_words Arch n = codes "0x" ++ padded_integral (format_spec 32 0 4 8 18446744073709551615) false []
    (digits 16 true n)
number_words Call n = if nat_lt n 65536 then decimal n else short_words n

-- a span: its number, or its two ends
abbrev pub span_words : Style → Span → List ℕ
span_words style s = number_words style s.first
    ++ (if nat_lt s.first s.last then codes ".." ++ number_words style s.last else [])

-- the number that spans are, if they are only one number
abbrev pub number_alone : List Span → Option ℕ
number_alone (s ∷ []) = if s.first == s.last then Some s.first else None
number_alone _ = None

-- what stands before numbers that are left out, or before those that are meant
abbrev pub start_words : Style → (without one : Bool) → List ℕ
start_words style true one = if one then codes "!= " else codes "not in "
start_words Short false one = if one then codes "= " else codes "in "
start_words Arch false one = if one then [] else codes "in "
start_words Call false one = []

-- the numbers of a form: those that are left out, or those that are meant
abbrev pub form_words : Style → FormData → List ℕ
form_words style f =
    start_words style f.without (is_some (number_alone f.spans))
    ++ joined [] (codes ",") (map (span_words style) f.spans)

-- ---- conditions

-- the name of a word of trees
abbrev pub word_words : ℕ → List ℕ
word_words word = slice_index_or word_keys (slice_index words_in_order (word - 18)) []

-- a condition: its word, with the mask where that leaves bits out, and the numbers
abbrev pub condition_words : ConditionData → List ℕ
condition_words c = word_words c.word
    ++ ((if c.form.mask == 4294967295 then [] else codes " & " ++ short_words c.form.mask)
    ++ 32 ∷ form_words Short c.form)

-- whether a condition is one on a word with all its bits
abbrev pub is_on : ℕ → ConditionData → Bool
is_on word c = (c.word == word) && (c.form.mask == 4294967295)

-- the conditions that don't stand behind `arch` and `nr`
abbrev pub further : List ConditionData → List ConditionData
further cs = filter (λ (c : ConditionData). not (is_on 18 c || is_on 19 c)) cs

-- conditions on other words, or on bits
abbrev pub conditions_words : List ConditionData → List ℕ
conditions_words cs = joined (codes " if ") (codes " and ") (map condition_words (further cs))

-- the numbers of a word on which there is a condition, or `any`
abbrev pub place_words : Style → Option ConditionData → List ℕ
place_words style None = codes "any"
place_words style (Some c) = form_words style c.form

-- ---- the names of the calls of a row

-- the numbers that a condition means; none where it shows those that are left out
abbrev pub meant : Option ConditionData → List Span
meant None = []
meant (Some c) = if c.form.without then [] else c.form.spans

-- the names of the calls of an architecture with these numbers
abbrev pub names_in_spans : List NamesData → ℕ → List Span → List (List ℕ)
names_in_spans sets arch spans = flat_map (λ (s : Span). names_between sets arch s.first s.last) spans

-- The names of the calls that a row is about. There are none where it is about several architectures, since one number
-- stands for different calls there; and none where it is about all numbers.
abbrev pub row_names : List NamesData → List ConditionData → List (List ℕ)
row_names sets cs =
    option_map_or (λ arch. names_in_spans sets arch (meant (find (is_on 19) cs)))
    (number_alone (meant (find (is_on 18) cs))) []

-- names behind the row: at most eight, and `..` for the others
abbrev pub row_names_words : List (List ℕ) → List ℕ
row_names_words names =
    if nat_lt 8 (length names) then joined (codes " # ") (codes ",") (take 8 names) ++ codes ",.."
    else joined (codes " # ") (codes ",") names

-- ---- lines

-- what the number of a row says: an answer, or what changes
abbrev pub answers_words : Subject → ℕ → List ℕ
answers_words Stack n = answer_words (answer_with n)
answers_words Change n = answer_words (before_of n) ++ (codes " -> " ++ answer_words (after_of n))

-- which calls a row is about: the numbers of their architectures, and their own
abbrev pub places_words : List ConditionData → List ℕ
places_words cs = codes "arch " ++ (place_words Arch (find (is_on 18) cs)
    ++ (codes " nr " ++ (place_words Call (find (is_on 19) cs) ++ 32 ∷ [])))

-- the line of a row
abbrev pub row_line : Subject → List NamesData → RowData → List ℕ
row_line s sets r = places_words r.conditions ++ (answers_words s r.number ++ (conditions_words r.conditions
    ++ (row_names_words (row_names sets r.conditions) ++ 10 ∷ [])))

-- the line of a row of a call
abbrev pub call_row_line : Subject → CallRowData → List ℕ
call_row_line s r = r.set ++ 32 ∷ (r.name ++ 32 ∷ (answers_words s r.row.number
    ++ (conditions_words r.row.conditions ++ 10 ∷ [])))

-- the lines of all rows that are shown: first those of calls
abbrev pub lines_of_rows : Subject → List NamesData → ShownData → List ℕ
lines_of_rows s sets shown =
    option_map_or (flat_map (call_row_line s)) shown.calls [] ++ flat_map (row_line s sets) shown.rows

-- the digest of rows, by which stacks that answer alike are known: SHA-256 of their lines without names
abbrev pub digest_of : Subject → List RowData → List ℕ
digest_of s rows = encode_lower (sha256 (flat_map (row_line s []) rows))
