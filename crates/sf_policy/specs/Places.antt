-- On which line and in which column of a policy a place is, and what stands there.
use Rattle.std.specs.Prelude.{◌≡◌, ℕ, ◌+◌, Bool, false, true, not, ◌&&◌, ◌||◌, ◌==◌, nat_le, if◌then◌else◌, List, ◌++◌, length, drop, get_or, count_by, codes, Option, None, Some, is_none}
use Rattle.std.specs.Borrow.{Bor}
use Rattle.sf_policy.specs.Common.{Key, after_last, bytes_eq, equals, first, key, left_brace, left_bracket, line_feed, skip_ws}

-- the number, from 1, of the line on which the place behind a text is
abbrev pub line_after : List ℕ → ℕ
line_after text = count_by (λ byte. byte == line_feed) text + 1

-- the byte doesn't continue a character of UTF-8
abbrev pub begins_character : ℕ → Bool
begins_character byte = not (nat_le 0x80 byte && nat_le byte 0xBF)

-- the number, from 1, of the column in which the place behind a text is: one more than the characters of its last line
abbrev pub column_after : List ℕ → ℕ
column_after text = count_by begins_character (after_last (λ byte. byte == line_feed) text) + 1

-- a part of a dotted key, counted from 0, or the last part where there are no more
abbrev pub part_of : Key → ℕ → List ℕ
part_of parts place = get_or parts.0 place parts.1

-- the key is `question` alone
abbrev pub is_question : Key → Bool
is_question parts = length parts.0 == 0 && bytes_eq parts.1 (codes "question")

-- a key is looked for, and this is its text
abbrev pub is_sought : Option (Bor (List ℕ)) → List ℕ → Bool
is_sought None text = false
is_sought (Some sought) text = bytes_eq sought.now text

-- a header with this key is that of the key that is looked for, or, where a question is, it is `[[question]]`
abbrev pub is_header_sought : Option (Bor (List ℕ)) → Key → Bool → Bool
is_header_sought None parts is_array = is_array && is_question parts
is_header_sought (Some sought) parts is_array =
    bytes_eq sought.now (part_of parts 0) || bytes_eq sought.now (part_of parts 1)

-- what stands between the brackets of a header and its end, by the text behind its first bracket
abbrev pub name_of_header : List ℕ → List ℕ
name_of_header inner = skip_ws (if first inner == left_bracket then drop 1 inner else inner)

-- a header that is looked for begins one byte before this text
pub record IsHeaderSought (sought : Option (Bor (List ℕ))) (inner : List ℕ) : Type 0 where
  pub parts : Key
  pub rest : List ℕ
  pub read : key (name_of_header inner) ≡ Some (parts, rest)
  pub wanted : is_header_sought sought parts (first inner == left_bracket) ≡ true

-- What is looked for begins where this text does: a key before a `=` by its first part, the key of a header by one of
-- its first two, or a question by `[[question]]` or a `{`. Which number the question has isn't said.
pub data BeginsAt (sought : Option (Bor (List ℕ))) (text : List ℕ) : Type 0 where
  with_value : (parts : Key) (rest : List ℕ) → key text ≡ Some (parts, rest) → first rest ≡ equals
      → is_sought sought (part_of parts 0) ≡ true → BeginsAt sought text
  in_header : first text ≡ left_bracket → IsHeaderSought sought (drop 1 text) → BeginsAt sought text
  in_braces : first text ≡ left_brace → is_none sought ≡ true → BeginsAt sought text

-- what is looked for stands on the line with this number, from 1
pub record IsLineOf (sought : Option (Bor (List ℕ))) (policy : List ℕ) (line : ℕ) : Type 0 where
  pub front : List ℕ
  pub text : List ℕ
  pub whole : policy ≡ front ++ text
  pub numbered : line ≡ line_after front
  pub there : BeginsAt sought text
