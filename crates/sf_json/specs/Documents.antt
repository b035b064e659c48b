-- What several outputs have in common as JSON, and the text of a document.
use Rattle.std.specs.Prelude.{ℕ, ◌-◌, ◌^◌, false, if◌then◌else◌, List, [], ◌∷◌, ◌++◌, Option, codes, length, map, option_and_then, slice_index}
use Rattle.std.specs.Fmt.{digits, format_spec, padded_integral}
use Rattle.serde_json.specs.Data.{Data, null, number, unsigned, string, array, object, Members, no_members, member, put}
use Rattle.serde_json.specs.Find.{as_str, get}
use Rattle.serde_json.specs.View.{items_of}
use Rattle.serde_json.specs.Written.{compact_text}
use Rattle.sf_insn.specs.declared.input.Input.{Input}
use Rattle.sf_check.specs.declared.insn.Insn.{Insn}
use Rattle.sf_check.specs.Stacks.{path_length}
use Rattle.sf_run.specs.declared.action.Action.{Action}
use Rattle.sf_run.specs.declared.action.Answer.{Answer}
use Rattle.sf_run.specs.declared.counts.Counts.{Counts}
use Rattle.sf_names.specs.Names.{NamesData}
use Rattle.sf_calls.specs.Calls.{arguments_in, whole_of}
use Rattle.sf_calls.specs.Texts.{call_words, is_named}
use Rattle.sf_stack.specs.Texts.{action_text, hex_text, lower_case_digits}

-- ---- the parts that documents are made of

-- these fields, each with its key
abbrev pub fields_of : List (List ℕ × Data) → Members
fields_of [] = no_members
fields_of (m ∷ ms) = member m.0 m.1 (fields_of ms)

-- the object with these fields, which stand in the order of their keys
abbrev pub fields : List (List ℕ × Data) → Data
fields ms = object (fields_of ms)

-- the array of these values
abbrev pub list_of : List Data → Data
list_of ds = array (items_of ds)

-- a number of at most 64 bits that counts something, or one that has at most 32
abbrev pub count : ℕ → Data
count n = number (unsigned n)

-- a number of 32 bits as a text: `0x` and eight hexadecimal digits
abbrev pub word : ℕ → Data
word n = string (codes "0x" ++ lower_case_digits n)

-- sixteen hexadecimal digits, in lower case: what std makes of the format {value:016x}
abbrev pub long_digits : ℕ → List ℕ
long_digits n = padded_integral (format_spec 32 0 4 16 (2 ^ 64 - 1)) false [] (digits 16 false n)

-- a number of 64 bits as a text: `0x` and sixteen hexadecimal digits
abbrev pub long_word : ℕ → Data
long_word n = string (codes "0x" ++ long_digits n)

-- an object with one field more, in place of one with the same key; a value that is no object stays as it is
abbrev pub with_field : List ℕ → Data → Data → Data
with_field k d (object ms) = object (put k d ms)
with_field k d other = other

-- the text at a key of an object, if one stands there
abbrev pub text_at : List ℕ → Data → Option (List ℕ)
text_at key d = option_and_then as_str (get key d)

-- ---- an input, an answer, sizes and counts

-- the input as a call in words, where a set of names has it
abbrev pub call_document : List NamesData → Input → Data
call_document names d = if is_named names d then string (call_words names d) else null

-- an input: its call, its words by their meaning, and its 64 bytes
abbrev pub input_document : List NamesData → Input → Data
input_document names d = fields (
    (codes "arch", word (slice_index d.words 1))
    ∷ (codes "args", list_of (map long_word (arguments_in d)))
    ∷ (codes "bytes", string (hex_text d))
    ∷ (codes "call", call_document names d)
    ∷ (codes "instruction_pointer", long_word (whole_of (slice_index d.words 2) (slice_index d.words 3)))
    ∷ (codes "nr", count (slice_index d.words 0)) ∷ [])

-- an action's name, as reports write it, and the data that goes with it
abbrev pub action_document : Action → ℕ → Data
action_document action info = fields ((codes "action", string (action_text action)) ∷ (codes "data", count info) ∷ [])

-- an answer
abbrev pub answer_document : Answer → Data
answer_document answer = action_document answer.action answer.info

-- how many filters, and the length of the path through them
abbrev pub sizes_document : List (List Insn) → Data
sizes_document programs =
    fields ((codes "filters", count (length programs)) ∷ (codes "path", count (path_length programs)) ∷ [])

-- how far an exploration came: regions, pieces left open, emptied names, splits and commits
abbrev pub counts_document : Counts → Data
counts_document counts = fields (
    (codes "commits", count counts.commits)
    ∷ (codes "emptied", count counts.emptied)
    ∷ (codes "open", count counts.left)
    ∷ (codes "regions", count counts.settled)
    ∷ (codes "splits", count counts.splits) ∷ [])

-- how many nodes diagrams have
abbrev pub diagram_document : ℕ → Data
diagram_document nodes = fields ((codes "nodes", count nodes) ∷ [])

-- ---- the text

-- a document on a line of its own
abbrev pub document_line : Data → List ℕ
document_line d = compact_text d ++ 10 ∷ []
