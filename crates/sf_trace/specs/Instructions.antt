-- The instructions of a filter, in the form that the kernel's `bpf_asm` reads and its `bpf_dbg` shows. What stands
-- behind a semicolon is a comment there.
use Rattle.std.specs.Prelude.{◌≡◌, ℕ, ◌+◌, ◌*◌, Bool, false, if◌then◌else◌, List, [], ◌∷◌, ◌++◌, codes, slice_index_or}
use Rattle.sf_trace.specs.Common.{decimal, digits, BinOp, Add, Sub, Mul, Div, Or, And, Lsh, Rsh, Xor, Test, Equal, Greater, GreaterOrEqual, AnyBit, Insn, LoadWord, LoadConstant, LoadScratch, LoadLength, LoadXConstant, LoadXScratch, LoadXLength, StoreA, StoreX, Alu, Negate, Jump, Branch, ReturnConstant, ReturnA, Tax, Txa, Operand, Constant, X, AreReached}

-- a constant, in hexadecimal
abbrev pub constant_text : ℕ → List ℕ
constant_text k = codes "#0x" ++ digits 16 false k

-- the second word of an operation or a test
abbrev pub operand_text : Operand → List ℕ
operand_text (Constant k) = constant_text k
operand_text X = codes "x"

-- a scratch word
abbrev pub scratch_text : ℕ → List ℕ
scratch_text k = codes "M[" ++ (decimal k ++ codes "]")

-- the label of the instruction at a place, counted from 0
abbrev pub label_text : ℕ → List ℕ
label_text at = codes "l" ++ decimal at

-- the name of an operation
abbrev pub operation_text : BinOp → List ℕ
operation_text Add = codes "add"
operation_text Sub = codes "sub"
operation_text Mul = codes "mul"
operation_text Div = codes "div"
operation_text Or = codes "or"
operation_text And = codes "and"
operation_text Lsh = codes "lsh"
operation_text Rsh = codes "rsh"
operation_text Xor = codes "xor"

-- the name of a test
abbrev pub test_text : Test → List ℕ
test_text Equal = codes "jeq"
test_text Greater = codes "jgt"
test_text GreaterOrEqual = codes "jge"
test_text AnyBit = codes "jset"

-- an operation on A
abbrev pub alu_text : BinOp → Operand → List ℕ
alu_text op operand = operation_text op ++ 32 ∷ operand_text operand

-- a test at a place: what A is compared with, and the labels to which it leads where it is true and where it is false
abbrev pub branch_text : ℕ → Test → Operand → ℕ → ℕ → List ℕ
branch_text at test operand on_true on_false =
    test_text test ++ 32 ∷ (operand_text operand ++ (codes ", " ++ (label_text (at + 1 + on_true)
    ++ (codes ", " ++ label_text (at + 1 + on_false)))))

-- The instruction at a place. A word of the input is named by its offset in bytes, and a jump leads to a label.
abbrev pub insn_text : ℕ → Insn → List ℕ
insn_text at (LoadWord i) = codes "ld [" ++ (decimal (4 * i) ++ codes "]")
insn_text at (LoadConstant k) = codes "ld " ++ constant_text k
insn_text at (LoadScratch k) = codes "ld " ++ scratch_text k
insn_text at LoadLength = codes "ld #len"
insn_text at (LoadXConstant k) = codes "ldx " ++ constant_text k
insn_text at (LoadXScratch k) = codes "ldx " ++ scratch_text k
insn_text at LoadXLength = codes "ldx #len"
insn_text at (StoreA k) = codes "st " ++ scratch_text k
insn_text at (StoreX k) = codes "stx " ++ scratch_text k
insn_text at (Alu op operand) = alu_text op operand
insn_text at Negate = codes "neg"
insn_text at (Jump k) = codes "ja " ++ label_text (at + 1 + k)
insn_text at (Branch test operand on_true on_false) = branch_text at test operand on_true on_false
insn_text at (ReturnConstant k) = codes "ret " ++ constant_text k
insn_text at ReturnA = codes "ret a"
insn_text at Tax = codes "tax"
insn_text at Txa = codes "txa"

-- the comment behind an instruction to which no path comes
abbrev pub comment_text : Bool → List ℕ
comment_text is_reached = if is_reached then [] else codes " ; never reached"

-- the line of the instruction at a place
abbrev pub insn_line : ℕ → Insn → Bool → List ℕ
insn_line at insn is_reached =
    label_text at ++ (codes ": " ++ (insn_text at insn ++ (comment_text is_reached ++ 10 ∷ [])))

-- The lines of instructions of a filter, the first of which is at this place. `found` tells of each place of the filter
-- whether a path comes to it.
abbrev pub insn_lines : List Bool → ℕ → List Insn → List ℕ
insn_lines found at [] = []
insn_lines found at (i ∷ is) = insn_line at i (slice_index_or found at false) ++ insn_lines found (at + 1) is

-- the lines of a filter's instructions; just those to which no path comes have the comment
abbrev pub AreInsnLines : List Insn → List ℕ → Type 0
AreInsnLines code lines = (found : List Bool) × AreReached code found × (lines ≡ insn_lines found 0 code)
