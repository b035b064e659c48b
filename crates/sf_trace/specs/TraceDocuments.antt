-- What `eval` finds, as JSON. Each field is always there: one that doesn't apply is null.
use Rattle.std.specs.Prelude.{ℕ, Bool, ◌&&◌, ◌||◌, if◌then◌else◌, List, [], ◌∷◌, codes, map, Option, Some, None, slice_get, unwrap_or}
use Rattle.sf_trace.specs.Common.{flat_map, Data, boolean, null, string, Input, Test, Insn, Answer, Meeting, action_bits, action_of, data_bits, NamesData, word_keys, action_document, answer_document, count, fields, input_document, list_of, word, Step}
use Rattle.sf_trace.specs.Runs.{RunData, runs_of}
use Rattle.sf_trace.specs.Traces.{is_false, sign_text, step_of}

-- ---- a filter

-- the word of the input that is compared, by its name; null where no word is
abbrev pub word_name : Option ℕ → Data
word_name (Some place) = string (unwrap_or (slice_get word_keys place) [])
word_name None = null

-- how a number is compared: the sign, the other number, and whether that is true; nulls where it isn't compared
abbrev pub compared_documents : Option (Test × ℕ × Bool) → Data × Data × Data
compared_documents (Some c) = (string (sign_text c.0), word c.1, boolean c.2)
compared_documents None = (null, null, null)

-- what the instruction at a place meets: a number, the name of the word that it is, and how it is compared
abbrev pub step_document : (place : ℕ) → Step → (compared : Data × Data × Data) → Data
step_document place s compared = fields (
    (codes "instruction", count place)
    ∷ (codes "other", compared.1)
    ∷ (codes "sign", compared.0)
    ∷ (codes "true", compared.2)
    ∷ (codes "value", word s.value)
    ∷ (codes "word", word_name s.word) ∷ [])

-- what a filter meets
abbrev pub meeting_document : Meeting → Data
meeting_document m = step_document m.place (step_of m) (compared_documents (step_of m).compared)

-- what a filter meets; in brief nothing where that is false
abbrev pub shown_meeting : (brief : Bool) → Meeting → List Data
shown_meeting brief m = if brief && is_false m then [] else meeting_document m ∷ []

-- a filter: its number, what it returns and where, whether its answer stands, and what it meets
abbrev pub filter_document : (brief : Bool) → RunData → Data
filter_document brief r = fields (
    (codes "answer", action_document (action_of (action_bits r.course.value)) (data_bits r.course.value))
    ∷ (codes "instruction", count r.course.place)
    ∷ (codes "met", list_of (flat_map (shown_meeting brief) r.course.met))
    ∷ (codes "number", count r.number)
    ∷ (codes "stands", boolean r.stands) ∷ [])

-- ---- the stack

-- the filters of a stack, where they are asked for: traced, or in brief without what is false
abbrev pub traced_document : (traced brief : Bool) → List (List Insn) → Input → Answer → Data
traced_document traced brief programs d answer =
    if traced || brief then list_of (map (filter_document brief) (runs_of programs d answer)) else null

-- what `eval` finds: the input, the answer of the stack to it, and where it comes from
abbrev pub eval_document : (traced brief : Bool) → List NamesData → List (List Insn) → Input → Answer → Data
eval_document traced brief names programs d answer = fields (
    (codes "answer", answer_document answer)
    ∷ (codes "filters", traced_document traced brief programs d answer)
    ∷ (codes "input", input_document names d)
    ∷ (codes "seccomp_audit", string (codes "eval"))
    ∷ (codes "version", count 1) ∷ [])
