-- The rows of a tree: which inputs lie in each, and what its number says of them.
use Rattle.std.specs.Prelude.{◌≡◌, ℕ, ◌-◌, ◌/◌, ◌%◌, ◌^◌, Bool, List, [], slice_index}
use Rattle.sf_rows.specs.Common.{list_all, Input, Answer, Tree, words_in_order, answer_with, behind, form_has, ConditionData, RowData, rows_under, CallData, NamesData, Subject, Stack, Change}

-- the number that an input has in a word of trees: of these the words 18 to 33 are the input's
abbrev pub tree_word : Input → ℕ → ℕ
tree_word d word = slice_index d.words (slice_index words_in_order (word - 18))

-- an input lies in a row: in each word on which the row has a condition it has one of the numbers that are meant
abbrev pub lies_in : Input → RowData → Bool
lies_in d r = list_all (λ (c : ConditionData). form_has c.form (tree_word d c.word)) r.conditions

-- an input is one of a call of a set
abbrev pub IsOfCall : NamesData → CallData → Input → Type 0
IsOfCall n c d = (slice_index d.words 1 ≡ n.arch) × (slice_index d.words 0 ≡ c.number)

-- the answers of the old stack and of the new one, by the number that stands for both
abbrev pub before_of : ℕ → Answer
before_of n = answer_with (n / 2 ^ 32)

abbrev pub after_of : ℕ → Answer
after_of n = answer_with (n % 2 ^ 32)

-- the number whose inputs no row shows: for a stack no answer has it; of a change it says that nothing changes
abbrev pub hidden_number : Subject → ℕ
hidden_number Stack = 2 ^ 32
hidden_number Change = 0

-- the rows of a tree; those of one architecture stand by the numbers of calls
abbrev pub rows_of : Subject → Tree → List RowData
rows_of s t = rows_under 19 (hidden_number s) 16 18 t []

-- the rows of a call: those of what comes behind its architecture and its number
abbrev pub rows_of_call : Subject → Tree → (arch number : ℕ) → List RowData
rows_of_call s t arch number = rows_under 19 (hidden_number s) 14 20 (behind 19 (behind 18 t arch) number) []
