-- The calls that `list` and `compare` are asked to tell one by one, which rows of a comparison, and the digest of rows.
use Rattle.std.specs.Prelude.{Bool, true, ◌&&◌, ◌||◌, ◌==◌, not, List, [], codes, count_by, is_some, Option, option_map}
use Rattle.sf_evaluate.specs.Common.{list_all, list_any, option_map_or, bytes_eq, Row, Text, first_of, comma_parts, text_of, NamesData, is_call_name, number_of_call}
use Rattle.sf_evaluate.specs.Asking.{has_file_of_names, is_given}

-- the names in a text, with commas between them; none where it is empty
abbrev pub names_in_text : Text → List Text
names_in_text [] = []
names_in_text text = comma_parts text

-- The calls that are asked for by their names, if calls are to be told one by one at all. Where no name is given, these
-- are all calls.
abbrev pub calls_asked : List Row → Option (List Text)
calls_asked rows = option_map names_in_text (first_of (codes "calls") rows)

-- a name can be that of a call, and stands once among these
abbrev pub is_wanted_once : List Text → Text → Bool
is_wanted_once names name = is_call_name name && (count_by (bytes_eq name) names == 1)

-- each name of a call that is asked for can be one, and stands once
abbrev pub calls_fit : List Row → Bool
calls_fit rows = option_map_or (λ names. list_all (is_wanted_once names) names) (calls_asked rows) true

-- a relation of answers, by its word
abbrev pub is_relation : Text → Bool
is_relation text = bytes_eq text (codes "looser") ||
    (bytes_eq text (codes "tighter") || bytes_eq text (codes "different"))

-- a switch is given
abbrev pub is_switched_on : Text → List Row → Bool
is_switched_on name rows = bytes_eq (text_of name rows) (codes "true")

-- what is said of the rows of a comparison needs rows, and names a relation
abbrev pub rows_fit : List Row → Bool
rows_fit rows =
    (is_switched_on (codes "rows") rows || not (is_given (codes "calls") rows || is_given (codes "only") rows))
    && option_map_or is_relation (first_of (codes "only") rows) true

-- a digest is that of all rows, each by itself: it goes without names, calls and JSON
abbrev pub digest_fits : List Row → Bool
digest_fits rows = not (is_switched_on (codes "digest") rows) || not (has_file_of_names rows
    || (is_given (codes "calls") rows || is_switched_on (codes "json") rows))

-- some set has a call with this name
abbrev pub is_known_call : List NamesData → Text → Bool
is_known_call sets name = list_any (λ (n : NamesData). is_some (number_of_call n name)) sets

-- each call that is asked for by its name is one of some set
abbrev pub are_known : List NamesData → Option (List Text) → Bool
are_known sets calls = option_map_or (list_all (is_known_call sets)) calls true
