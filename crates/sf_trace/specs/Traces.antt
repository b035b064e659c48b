-- The text of `eval --trace`: the input, and how each filter comes to its return value.
use Rattle.std.specs.Prelude.{◌≡◌, ℕ, ◌-◌, ◌^◌, Bool, true, false, ◌==◌, ◌&&◌, not, if◌then◌else◌, List, [], ◌∷◌, ◌++◌, codes, find, reverse, Option, Some, None, slice_get, slice_index, unwrap_or}
use Rattle.sf_trace.specs.Common.{flat_map, option_map_or, decimal, digits, padded_integral, format_spec, Input, Test, Equal, Greater, GreaterOrEqual, AnyBit, Insn, Answer, Meeting, Met, Tested, Divided, Returned, Answers, action_bits, action_of, data_bits, word_keys, NamesData, names_between, names_words, action_text, line, call_words, is_named, Step}
use Rattle.sf_trace.specs.Runs.{RunData, runs_of}
use Rattle.sf_trace.specs.Texts.{answer_text}

-- the eight hexadecimal digits of a word
abbrev pub word_digits : ℕ → List ℕ
word_digits n = padded_integral (format_spec 32 0 4 8 (2 ^ 64 - 1)) false [] (digits 16 true n)

-- a word as a hexadecimal number
abbrev pub word_text : ℕ → List ℕ
word_text n = codes "0x" ++ word_digits n

-- ---- the input

-- the line of a field of 64 bits, from its low and its high half
abbrev pub field_line : List ℕ → ℕ → ℕ → List ℕ
field_line name low high = name ++ (codes " 0x" ++ (word_digits high ++ (word_digits low ++ 10 ∷ [])))

-- the line of the call's number, in both ways in which a policy may write it, with its names on its architecture
abbrev pub nr_line : List NamesData → ℕ → ℕ → List ℕ
nr_line names arch nr = codes "nr " ++ (word_text nr ++ 32 ∷ (decimal nr
    ++ (names_words 0 (names_between names arch nr nr) ++ 10 ∷ [])))

-- the lines of the call's number, the architecture, and the instruction pointer
abbrev pub call_text : List NamesData → Input → List ℕ
call_text names d =
    nr_line names (slice_index d.words 1) (slice_index d.words 0)
    ++ (line (codes "arch" ∷ word_text (slice_index d.words 1) ∷ [])
    ++ field_line (codes "ip") (slice_index d.words 2) (slice_index d.words 3))

-- the lines of the arguments 0 to 2, each of 64 bits
abbrev pub first_arguments : Input → List ℕ
first_arguments d =
    field_line (codes "arg0") (slice_index d.words 4) (slice_index d.words 5)
    ++ (field_line (codes "arg1") (slice_index d.words 6) (slice_index d.words 7)
    ++ field_line (codes "arg2") (slice_index d.words 8) (slice_index d.words 9))

-- the lines of the arguments 3 to 5
abbrev pub last_arguments : Input → List ℕ
last_arguments d =
    field_line (codes "arg3") (slice_index d.words 10) (slice_index d.words 11)
    ++ (field_line (codes "arg4") (slice_index d.words 12) (slice_index d.words 13)
    ++ field_line (codes "arg5") (slice_index d.words 14) (slice_index d.words 15))

-- the lines of all fields of the input
abbrev pub fields_text : List NamesData → Input → List ℕ
fields_text names d = call_text names d ++ (first_arguments d ++ last_arguments d)

-- the line of the input as a call
abbrev pub call_line : List NamesData → Input → List ℕ
call_line names d = codes "call " ++ (call_words names d ++ 10 ∷ [])

-- the line of the input as a call, where a set has the call, and then its fields
abbrev pub input_text : List NamesData → Input → List ℕ
input_text names d = (if is_named names d then call_line names d else []) ++ fields_text names d

-- ---- a filter

-- the sign of a test: how it compares two words
abbrev pub sign_text : Test → List ℕ
sign_text Equal = codes "="
sign_text Greater = codes ">"
sign_text GreaterOrEqual = codes ">="
sign_text AnyBit = codes "&"

-- the text of a truth value
abbrev pub truth_text : Bool → List ℕ
truth_text true = codes "true"
truth_text false = codes "false"

-- how a number is compared, with which other one, and the result; or that it is returned
abbrev pub compared_text : Option (Test × ℕ × Bool) → List ℕ
compared_text (Some c) = 32 ∷ (sign_text c.0 ++ 32 ∷ (word_text c.1 ++ 32 ∷ (truth_text c.2 ++ 10 ∷ [])))
compared_text None = codes " returned\n"

-- the name of a word of the input and a blank; nothing where there is no word
abbrev pub named_text : Option ℕ → List ℕ
named_text (Some word) = unwrap_or (slice_get word_keys word) [] ++ 32 ∷ []
named_text None = []

-- What a filter meets: a test; at a division by X, whether X is 0; at a return of A, that A.
abbrev pub step_of : Meeting → Step
step_of m = by m.met
  where
    by : Met → Step
    by (Tested test a other passed) = record { word = m.word; value = a; compared = Some (test, other, passed) }
    by (Divided x) = record { word = None; value = x; compared = Some (Equal, 0, x == 0) }
    by (Returned a) = record { word = None; value = a; compared = None }

-- The line of a number that an instruction of a filter meets. Before it stands its name, if it is a word of the input.
abbrev pub step_line : ℕ → ℕ → Step → List ℕ
step_line number place s =
    codes "filter " ++ (decimal number ++ (codes " instruction "
    ++ (decimal place ++ 32 ∷ (named_text s.word ++ (word_text s.value ++ compared_text s.compared)))))

-- the line of what a filter meets
abbrev pub meeting_line : ℕ → Meeting → List ℕ
meeting_line number m = step_line number m.place (step_of m)

-- a comparison that is false
abbrev pub is_false : Meeting → Bool
is_false m = option_map_or (λ (c : Test × ℕ × Bool). not c.2) (step_of m).compared false

-- a comparison that is true
abbrev pub is_true : Meeting → Bool
is_true m = option_map_or (λ (c : Test × ℕ × Bool). c.2) (step_of m).compared false

-- the line of what a filter meets; in brief nothing where that is false
abbrev pub shown_line : Bool → ℕ → Meeting → List ℕ
shown_line brief number m = if brief && is_false m then [] else meeting_line number m

-- the word behind a filter whose answer stands
abbrev pub stands_text : Bool → List ℕ
stands_text stands = if stands then codes " stands" else []

-- the line of a filter's return value, and where it returns it
abbrev pub return_line : ℕ → ℕ → ℕ → Bool → List ℕ
return_line number place value stands =
    codes "filter " ++ (decimal number ++ 32 ∷ (action_text (action_of (action_bits value)) ++ 32 ∷ (decimal
    (data_bits value) ++ (codes " instruction " ++ (decimal place ++ (stands_text stands ++ 10 ∷ []))))))

-- the lines of a filter: what it returns, and under it what it meets
unfoldable pub walk_text : Bool → RunData → List ℕ
walk_text brief r =
    return_line r.number r.course.place r.course.value r.stands
    ++ flat_map (shown_line brief r.number) r.course.met

-- ---- the stack

-- the lines of the input, with these names of calls, and of all filters of the stack, for the stack's answer
abbrev pub trace_text : Bool → List NamesData → List (List Insn) → Input → Answer → List ℕ
trace_text brief names programs d answer =
    input_text names d ++ flat_map (walk_text brief) (runs_of programs d answer)

-- the line of the answer; under it where the answer comes from, if that is asked for, in full or in brief
abbrev pub eval_text : (traced brief : Bool) → List NamesData → List (List Insn) → Input → Answer → List ℕ
eval_text false false names programs d answer = answer_text answer
eval_text traced brief names programs d answer = answer_text answer ++ trace_text brief names programs d answer

-- ---- why a question is allowed

-- a line behind the word `why`
abbrev pub why_line : List ℕ → List ℕ
why_line text = codes "why " ++ text

-- the last true comparison of what is met, in order
abbrev pub last_true : List Meeting → Option Meeting
last_true met = find is_true (reverse met)

-- the line of the last true comparison; nothing where there is none
abbrev pub cause_line : ℕ → Option Meeting → List ℕ
cause_line number (Some m) = why_line (meeting_line number m)
cause_line number None = []

-- the lines of a filter: what it returns, and under it the last comparison that is true before that
unfoldable pub cause_text : RunData → List ℕ
cause_text r =
    why_line (return_line r.number r.course.place r.course.value r.stands)
    ++ cause_line r.number (last_true r.course.met)

-- the line of the input as a call, and the lines of all filters of the stack, newest first, for the stack's answer
abbrev pub why_text : List NamesData → List (List Insn) → Input → Answer → List ℕ
why_text names programs d answer = why_line (call_line names d) ++ flat_map cause_text (runs_of programs d answer)

-- the text tells why the stack answers to the input as it does
abbrev pub IsWhy : List NamesData → List (List Insn) → Input → List ℕ → Type 0
IsWhy names programs d text = (a : Answer) × Answers programs d a × (text ≡ why_text names programs d a)
