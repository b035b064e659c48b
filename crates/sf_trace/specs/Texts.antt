-- The texts that `check` and `eval` write.
use Rattle.std.specs.Prelude.{◌≡◌, ℕ, Bool, true, false, List, [], ◌∷◌, ◌++◌, ◌+◌, codes, length}
use Rattle.sf_trace.specs.Common.{decimal, Insn, path_length, Answer, action_text, line}
use Rattle.sf_trace.specs.Instructions.{AreInsnLines}

-- the line of `eval`: an action and its data
abbrev pub answer_text : Answer → List ℕ
answer_text answer = line (action_text answer.action ∷ decimal answer.info ∷ [])

-- the line of `check` for a filter, with its number of instructions
abbrev pub filter_line : ℕ → ℕ → List ℕ
filter_line number instructions = line (codes "filter" ∷ decimal number ∷ decimal instructions
    ∷ codes "instructions" ∷ [])

-- what stands under the line of a filter: the lines of its instructions, if they are listed
abbrev pub StandUnder : (listed : Bool) → List Insn → List ℕ → Type 0
StandUnder true code lines = AreInsnLines code lines
StandUnder false code lines = lines ≡ []

-- the lines of each filter; the first of them has this number
abbrev pub AreFilterLines : (listed : Bool) → ℕ → List (List Insn) → List ℕ → Type 0
AreFilterLines listed number [] lines = lines ≡ []
AreFilterLines listed number (p ∷ ps) lines =
    (under rest : List ℕ) × StandUnder listed p under × AreFilterLines listed (number + 1) ps rest
    × (lines ≡ filter_line number (length p) ++ (under ++ rest))

-- the last line of `check`: the length of the path through all filters
abbrev pub path_line : ℕ → List ℕ
path_line path = line (codes "path" ∷ decimal path ∷ [])

-- what `check` writes of a stack
abbrev pub IsCheckText : (listed : Bool) → List (List Insn) → List ℕ → Type 0
IsCheckText listed programs text =
    (lines : List ℕ) × AreFilterLines listed 1 programs lines × (text ≡ lines ++ path_line (path_length programs))
