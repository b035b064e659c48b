-- The input that `eval` is asked for, by the words of the command line.
use Rattle.std.specs.Prelude.{◌≡◌, ◌⊎◌, ℕ, Bool, true, false, not, ◌&&◌, ◌||◌, nat_lt, if◌then◌else◌, List, [], ◌∷◌, Option, Some, None, Ok, codes, find, is_ok, is_some, length, map, option_and_then, option_map}
use Rattle.sf_evaluate.specs.Common.{Bor, result_ok, decode_sized, Row, Text, first_of, Input, input_bytes, NamesData, has_set, is_call_name, number_of_call, call_input, are_arguments, is_number, read_arguments, read_number, Fault, paths_of, text_of, FileRead}
use Rattle.sf_evaluate.specs.Failures.{NamesFailed}
use Rattle.sf_evaluate.specs.Names.{AreNamesRead, RefusesNaming, RefusesSetsAt}
use Rattle.sf_evaluate.specs.declared.files.identity.FileRole.TheVariants.{Names as NamesRole}

-- ---- the words fit together

-- an option is given
abbrev pub is_given : Text → List Row → Bool
is_given name rows = is_some (first_of name rows)

-- a call is asked for by its name, in a set with a name
abbrev pub call_fits : List Row → Bool
call_fits rows =
    not (is_given (codes "nr") rows)
    && (is_call_name (text_of (codes "call") rows) && is_call_name (text_of (codes "arch") rows))

-- a call is asked for by its number, on an architecture, which is given by its number or the name of a set
abbrev pub nr_fits : List Row → Bool
nr_fits rows =
    is_given (codes "nr") rows && (is_number (text_of (codes "nr") rows)
    && (is_number (text_of (codes "arch") rows) || is_call_name (text_of (codes "arch") rows)))

-- The words ask for one input: by its bytes, with nothing of a call beside them; or by a call's name or number, with
-- its architecture and its arguments.
abbrev pub eval_words_fit : List Row → Bool
eval_words_fit rows =
    if is_given (codes "input") rows
    then not (is_given (codes "call") rows || is_given (codes "nr") rows)
    && not (is_given (codes "arch") rows || is_given (codes "args") rows)
    else (is_given (codes "arch") rows && (is_given (codes "args") rows && are_arguments (text_of (codes "args") rows)))
    && (if is_given (codes "call") rows then call_fits rows else nr_fits rows)

-- ---- the files of names

-- a file of names is given
abbrev pub has_file_of_names : List Row → Bool
has_file_of_names rows = nat_lt 0 (length (paths_of (codes "names") rows))

-- No file of names is given, and names are needed: a call is asked for by its name, calls are told one by one, a
-- profile is read, or the architecture is given, and not by its number.
abbrev pub lacks_names : List Row → Bool
lacks_names rows =
    not (has_file_of_names rows)
    && ((is_given (codes "call") rows || is_given (codes "calls") rows)
    || (is_given (codes "profile") rows
    || (is_given (codes "arch") rows && not (is_number (text_of (codes "arch") rows)))))

-- the paths of the files of names: those that are given; or that of the file that comes with the program
abbrev pub names_paths : List Row → List Text
names_paths rows = if lacks_names rows then codes "@names" ∷ [] else paths_of (codes "names") rows

-- these are the paths of the files of names
abbrev pub AreNamesPaths : List Row → List (Bor Text) → Type 0
AreNamesPaths rows paths = map (λ p. p.now) paths ≡ names_paths rows

-- the sets of calls in these files, joined
pub record AreNamed (holds : Text → Option Text) (rows : List Row) (names : List NamesData) : Type 0 where
  pub paths : List (Bor Text)
  pub named : AreNamesPaths rows paths
  pub read : AreNamesRead holds paths names

-- why these files are refused
abbrev pub RefusesNamed : (Text → Option Text) → List Row → Fault → Type 0
RefusesNamed holds rows fault =
    (paths : List (Bor Text)) × AreNamesPaths rows paths × RefusesNaming holds paths fault

-- the file that is named is the one of these files that failed
abbrev pub NamesOfNamed : (Text → Option Text) → List Row → Option FileRead → Fault → Type 0
NamesOfNamed holds rows named fault =
    (paths : List (Bor Text)) × AreNamesPaths rows paths
    × NamesFailed NamesRole holds paths named (RefusesSetsAt holds paths fault) fault

-- ---- the numbers are narrow enough

-- where a text is a number, it has 32 bits at most
abbrev pub is_narrow : Text → Bool
is_narrow text = if is_number text then is_ok (read_number 32 text) else true

-- where a call is asked for by its number, this has 32 bits at most, and that of the architecture
abbrev pub is_nr_narrow : List Row → Bool
is_nr_narrow rows =
    if is_given (codes "nr") rows
    then is_ok (read_number 32 (text_of (codes "nr") rows)) && is_narrow (text_of (codes "arch") rows)
    else true

-- the bytes of an input are spelled, or each number of a call has no more bits than its place
abbrev pub numbers_fit : List Row → Bool
numbers_fit rows =
    if is_given (codes "input") rows then is_ok (decode_sized (text_of (codes "input") rows) 64)
    else is_ok (read_arguments (text_of (codes "args") rows)) && is_nr_narrow rows

-- ---- the input

-- The number of the call: the one that is given, or that of the call that is named, in the set that is named; none
-- where there is no such set or call.
abbrev pub asked_nr : List Row → List NamesData → Option ℕ
asked_nr rows names =
    if is_given (codes "nr") rows then result_ok (read_number 32 (text_of (codes "nr") rows))
    else option_and_then (λ n. number_of_call n (text_of (codes "call") rows))
    (find (has_set (text_of (codes "arch") rows)) names)

-- The number of the architecture: the one that is given, which goes only with the number of a call, or that of the set
-- that is named; none where there is no such set.
abbrev pub asked_arch : List Row → List NamesData → Option ℕ
asked_arch rows names =
    if is_given (codes "nr") rows && is_number (text_of (codes "arch") rows)
    then result_ok (read_number 32 (text_of (codes "arch") rows))
    else option_map (λ (n : NamesData). n.arch) (find (has_set (text_of (codes "arch") rows)) names)

-- the input is that of the call that is asked for
pub record IsCallInput (rows : List Row) (names : List NamesData) (input : Input) : Type 0 where
  pub nr : ℕ
  pub number : asked_nr rows names ≡ Some nr
  pub arch : ℕ
  pub architecture : asked_arch rows names ≡ Some arch
  pub arguments : List ℕ
  pub read : read_arguments (text_of (codes "args") rows) ≡ Ok arguments
  pub words : input ≡ call_input nr arch arguments

-- the input is the one that is asked for, with these sets of calls
abbrev pub AsksInput : List Row → List NamesData → Input → Type 0
AsksInput rows names input =
    ((is_given (codes "input") rows ≡ true)
    × (decode_sized (text_of (codes "input") rows) 64 ≡ Ok (input_bytes input)))
    ⊎ ((is_given (codes "input") rows ≡ false) × IsCallInput rows names input)

-- a name that is given is none of these sets and their calls
abbrev pub LacksName : List Row → List NamesData → Type 0
LacksName rows names = (asked_nr rows names ≡ None) ⊎ (asked_arch rows names ≡ None)
