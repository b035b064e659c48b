-- The questions that may be allowed, by the file that names them.
use Rattle.std.specs.Prelude.{◌≡◌, ℕ, Bool, true, false, not, ◌==◌, List, [], ◌∷◌, length, count_by, Some, slice_get, take}
use Rattle.sf_policy.specs.Common.{before_first, filter, flat_map, list_all, slice_split, bytes_eq, lines, QuestionData}

-- the part begins with `#`
abbrev pub is_comment : List ℕ → Bool
is_comment [] = false
is_comment (byte ∷ bytes) = byte == 35

-- the parts of a line between its spaces
abbrev pub parts_of_line : List ℕ → List (List ℕ)
parts_of_line text = slice_split (λ b. b == 32) text

-- the parts of a line before its comment, which begins with a `#` at the beginning of the line or after a space
abbrev pub parts_before_comment : List ℕ → List (List ℕ)
parts_before_comment text = before_first is_comment (parts_of_line text)

-- the words of a line before its comment
abbrev pub words_of_line : List ℕ → List (List ℕ)
words_of_line text = filter (λ part. not (length part == 0)) (parts_before_comment text)

-- just one of the questions has this name
abbrev pub is_name_once : List QuestionData → List ℕ → Bool
is_name_once questions name = count_by (λ q. bytes_eq q.name name) questions == 1

-- the words are the name of one of the questions, or none
abbrev pub is_one_name : List QuestionData → List (List ℕ) → Bool
is_one_name questions [] = true
is_one_name questions (name ∷ []) = is_name_once questions name
is_one_name questions _ = false

-- the line names one of the questions, or none
abbrev pub line_fits : List QuestionData → List ℕ → Bool
line_fits questions text = is_one_name questions (words_of_line text)

-- the names on the lines of a text
abbrev pub names_on_lines : List ℕ → List (List ℕ)
names_on_lines text = flat_map words_of_line (lines text)

-- the text names some of the questions, on each line one or none; these are their names
pub record AreAccepted (questions : List QuestionData) (text : List ℕ) (names : List (List ℕ)) : Type 0 where
  pub fit : list_all (line_fits questions) (lines text) ≡ true
  pub all : names ≡ names_on_lines text

-- the first line that doesn't name one of the questions, or none, stands at a place, counted from 0
pub record IsMisfitAt (questions : List QuestionData) (text : List ℕ) (place : ℕ) : Type 0 where
  pub line : List ℕ
  pub there : slice_get (lines text) place ≡ Some line
  pub misfit : line_fits questions line ≡ false
  pub first : list_all (line_fits questions) (take place (lines text)) ≡ true
