-- What `check` and `eval` write of a stack.
use Rattle.std.specs.Prelude.{◌≡◌, ◌⊎◌, ℕ, Bool, true, false, List, Option}
use Rattle.sf_evaluate.specs.Common.{Bor, Appends, Data, Input, Insn, Answer, Answers, Fault, Write, NamesData, document_line, IsCheckDocument, IsCheckText, eval_document, eval_text, Manner, Filter}
use Rattle.sf_evaluate.specs.Files.{HoldStack, RefusesFiles}
use Rattle.sf_evaluate.specs.Identity.{HasFiles, identified}

-- what is told of a stack: a text; or one JSON document, with the line of this version and these documents of files
abbrev pub IsCheckOutput : (listed json : Bool) → (version : List ℕ) → (files : List Data) → List (List Insn) → List ℕ
    → Type 0
IsCheckOutput listed false version files programs text = IsCheckText listed programs text
IsCheckOutput listed true version files programs text =
    (d : Data) × IsCheckDocument listed programs d × (text ≡ document_line (identified version files d))

-- what is told of the answer of a stack to an input, with these names of calls: a text; or one JSON document, with the
-- line of this version and these documents of files
abbrev pub eval_output : (traced brief json : Bool) → (version : List ℕ) → (files : List Data) → List NamesData
    → List (List Insn) → Input → Answer → List ℕ
eval_output traced brief false version files names programs input answer =
    eval_text traced brief names programs input answer
eval_output traced brief true version files names programs input answer =
    document_line (identified version files (eval_document traced brief names programs input answer))

-- `check`: the files at the paths are read, and what is told of their stack is written
abbrev pub ChecksFiles : (listed json : Bool) → (version : List ℕ) → (List ℕ → Option (List ℕ))
    → List (Bor (List ℕ)) → Option (List ℕ) → Option (List ℕ) → Type 0
ChecksFiles listed json version holds paths old new =
    (stack : List (List Insn)) × (files : List Data) × HoldStack holds paths stack
    × HasFiles json holds Filter paths files
    × ((text : List ℕ) × IsCheckOutput listed json version files stack text × Appends old new text)

-- `eval`: the files at the paths are read, and what their stack answers to the input is written
abbrev pub AnswersFiles : Input → Manner → (version : List ℕ) → (List ℕ → Option (List ℕ)) → List (Bor (List ℕ))
    → List NamesData → Option (List ℕ) → Option (List ℕ) → Type 0
AnswersFiles input how version holds paths names old new =
    (stack : List (List Insn)) × (files : List Data) × HoldStack holds paths stack
    × HasFiles how.json holds Filter paths files
    × ((answer : Answer) × Answers stack input answer
    × Appends old new (eval_output how.traced how.brief how.json version files names stack input answer))

-- why `check` is refused
abbrev pub RefusesCheck : (List ℕ → Option (List ℕ)) → List (Bor (List ℕ)) → Fault → Type 0
RefusesCheck holds paths fault = (fault ≡ Write) ⊎ RefusesFiles holds paths fault
