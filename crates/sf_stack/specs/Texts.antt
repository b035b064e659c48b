-- Texts that several reports share, and what is written of a text where writing fails.
use Rattle.std.specs.Prelude.{◌≡◌, ℕ, ◌-◌, ◌^◌, false, List, [], ◌∷◌, ◌++◌, codes, length, Option}
use Rattle.std.specs.Fmt.{decimal, digits, padded_integral, format_spec}
use Rattle.std.specs.Io.KnownBytes.{Appends}
use Rattle.hex.specs.Hex.{encode_lower}
use Rattle.sf_insn.specs.declared.input.Input.{Input}
use Rattle.sf_insn.specs.Inputs.{input_bytes}
use Rattle.sf_check.specs.declared.insn.Insn.{Insn}
use Rattle.sf_check.specs.Stacks.{path_length}
use Rattle.sf_run.specs.declared.action.Action.{Action}
use Rattle.sf_run.specs.declared.action.Answer.{Answer}
use Rattle.sf_run.specs.declared.action.Action.TheVariants.{KillProcess, KillThread, Trap, Errno, UserNotif, Trace, Log, Allow, Other}
use Rattle.sf_run.specs.declared.counts.Counts.{Counts}

-- the parts of a line one blank apart, and a line feed
abbrev pub line : List (List ℕ) → List ℕ
line [] = 10 ∷ []
line (part ∷ []) = part ++ 10 ∷ []
line (part ∷ next ∷ parts) = part ++ 32 ∷ line (next ∷ parts)

-- how far the exploration came: regions, pieces left open, emptied names, splits and commits
abbrev pub counts_line : Counts → List ℕ
counts_line counts =
    line (codes "regions" ∷ decimal counts.settled ∷ codes "open" ∷ decimal counts.left ∷ codes "emptied"
    ∷ decimal counts.emptied
    ∷ codes "splits" ∷ decimal counts.splits ∷ codes "commits" ∷ decimal counts.commits ∷ [])

-- how many filters a stack has, and the length of the path through them
abbrev pub filters_line : List (List Insn) → List ℕ
filters_line programs = line (codes "filters" ∷ decimal (length programs) ∷ codes "path"
    ∷ decimal (path_length programs) ∷ [])

-- how many nodes diagrams have
abbrev pub nodes_line : ℕ → List ℕ
nodes_line nodes = line (codes "diagram" ∷ codes "nodes" ∷ decimal nodes ∷ [])

-- the 64 bytes of an input as hexadecimal digits
abbrev pub hex_text : Input → List ℕ
hex_text input = encode_lower (input_bytes input)

-- eight hexadecimal digits, in lower case: what std makes of the format {value:08x}
abbrev pub lower_case_digits : ℕ → List ℕ
lower_case_digits value = padded_integral (format_spec 32 0 4 8 (2 ^ 64 - 1)) false [] (digits 16 false value)

-- the action's name, or OTHER with its number by eight hexadecimal digits
abbrev pub action_text : Action → List ℕ
action_text KillProcess = codes "KILL_PROCESS"
action_text KillThread = codes "KILL_THREAD"
action_text Trap = codes "TRAP"
action_text Errno = codes "ERRNO"
action_text UserNotif = codes "USER_NOTIF"
action_text Trace = codes "TRACE"
action_text Log = codes "LOG"
action_text Allow = codes "ALLOW"
action_text (Other value) = codes "OTHER:0x" ++ lower_case_digits value

-- an action and its data
abbrev pub answer_words : Answer → List ℕ
answer_words answer = action_text answer.action ++ 32 ∷ decimal answer.info

-- a writer's known bytes grew by a beginning of the text
abbrev pub AppendsFront : Option (List ℕ) → Option (List ℕ) → List ℕ → Type 0
AppendsFront old new text = (front : List ℕ) × (rest : List ℕ) × (text ≡ front ++ rest) × Appends old new front
