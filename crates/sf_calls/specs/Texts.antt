-- An input as a call, in words.
use Rattle.std.specs.Prelude.{ℕ, ◌+◌, ◌-◌, ◌^◌, ◌==◌, ◌&&◌, Bool, true, false, if◌then◌else◌, List, [], ◌∷◌, ◌++◌, codes, find, take, Option, Some, None, is_some, slice_index}
use Rattle.std.specs.Fmt.{decimal, digits, format_spec, padded_integral}
use Rattle.sf_insn.specs.declared.input.Input.{Input}
use Rattle.sf_names.specs.Names.{CallData, NamesData}
use Rattle.sf_calls.specs.Calls.{arguments_in, count_shown}

-- ---- the call's name

-- the call has this number
abbrev pub has_number : ℕ → CallData → Bool
has_number nr c = c.number == nr

-- the set is one of the architecture, and has a call of this number
abbrev pub has_call : ℕ → ℕ → NamesData → Bool
has_call arch nr n = n.arch == arch && is_some (find (has_number nr) n.calls)

-- a set has the call of the input
abbrev pub is_named : List NamesData → Input → Bool
is_named names d = is_some (find (has_call (slice_index d.words 1) (slice_index d.words 0)) names)

-- the name of a call; none where there is no call
abbrev pub call_name_text : Option CallData → List ℕ
call_name_text (Some c) = c.name
call_name_text None = []

-- The names of the set and of its first call with this number; where there is no set, the number of the architecture,
-- by eight hexadecimal digits, and that of the call.
abbrev pub name_words : ℕ → ℕ → Option NamesData → List ℕ
name_words arch nr (Some n) = n.set ++ 32 ∷ call_name_text (find (has_number nr) n.calls)
name_words arch nr None =
    codes "0x" ++ (padded_integral (format_spec 32 0 4 8 (2 ^ 64 - 1)) false [] (digits 16 true arch)
    ++ 32 ∷ decimal nr)

-- ---- its arguments

-- what stands before the argument at a place
abbrev pub separator : ℕ → List ℕ
separator place = if place == 0 then [] else codes ", "

-- the argument at a place, in short hexadecimal digits
abbrev pub argument_words : ℕ → ℕ → List ℕ
argument_words place n =
    separator place ++ (codes "arg" ++ (decimal place ++ (codes " = 0x" ++ digits 16 true n)))

-- arguments, the first of them at this place
abbrev pub arguments_words : ℕ → List ℕ → List ℕ
arguments_words place [] = []
arguments_words place (n ∷ ns) = argument_words place n ++ arguments_words (place + 1) ns

-- the arguments up to the last one that isn't 0, in parentheses
abbrev pub shown_arguments : List ℕ → List ℕ
shown_arguments arguments = 40 ∷ (arguments_words 0 (take (count_shown arguments) arguments) ++ 41 ∷ [])

-- The input as a call: the names of the first set that has it and of the call, or the two numbers; and its arguments.
abbrev pub call_words : List NamesData → Input → List ℕ
call_words names d =
    name_words (slice_index d.words 1) (slice_index d.words 0)
    (find (has_call (slice_index d.words 1) (slice_index d.words 0)) names)
    ++ shown_arguments (arguments_in d)
