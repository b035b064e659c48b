-- The form of the filter that is written. Nothing has to be believed of it: what it answers is proved to be the
-- meaning.
use Rattle.std.specs.Prelude.{ℕ, ◌+◌, ◌*◌, ◌/◌, ◌%◌, ◌^◌, Bool, true, false, ◌==◌, ◌&&◌, nat_lt, nat_le, max, fold, bit_and, if◌then◌else◌, List, [], ◌∷◌, ◌++◌, length, map, Option, Some, None}
use Rattle.sf_profile.specs.Common.{list_all, flat_map, RawInsn, Test, spelling, CallSet, X64, X32, Comparing, NotEqual, Less, LessOrEqual, Equal, GreaterOrEqual, Greater, MaskedEqual, Comparison, Response, KillProcess, KillThread, Trap, Errno, Notify, Tracer, Log, Allow, Call, Reading, Instruction, Load, Mask, Branch, Skip, Return}
use Rattle.sf_insn.specs.declared.ops.Test.TheVariants as tests
use Rattle.sf_profile.specs.Data.{RuleData, SetRulesData, PlanData}
use Rattle.sf_profile.specs.Meaning.{arch_of, is_wide, word_of, order, refuses_newer}

-- the value that a filter returns for a response: the number of its action, with its data of 16 bits
abbrev pub returned_value_of : Response → ℕ
returned_value_of KillProcess = 0x80000000
returned_value_of KillThread = 0
returned_value_of Trap = 0x00030000
returned_value_of (Errno number) = 0x00050000 + number % 2 ^ 16
returned_value_of Notify = 0x7fc00000
returned_value_of (Tracer number) = 0x7ff00000 + number % 2 ^ 16
returned_value_of Log = 0x7ffc0000
returned_value_of Allow = 0x7fff0000

-- ---- comparisons

-- the halves of a number of 64 bits
abbrev pub high : ℕ → ℕ
high n = n / 2 ^ 32 % 2 ^ 32

abbrev pub low : ℕ → ℕ
low n = n % 2 ^ 32

-- A test for equality, of 64 bits or of the low 32. Where to go on is told by how many instructions after its end that
-- is, where it holds and where it doesn't.
abbrev pub equal_code : Bool → ℕ → ℕ → ℕ → ℕ → List Instruction
equal_code true word value on_true on_false =
    Load (word + 1) ∷ Branch tests.Equal (high value) 0 (on_false + 2)
    ∷ Load word ∷ Branch tests.Equal (low value) on_true on_false ∷ []
equal_code false word value on_true on_false = Load word ∷ Branch tests.Equal (low value) on_true on_false ∷ []

-- a test for an order: of the high halves, and where they are equal, of the low ones
abbrev pub order_code : Bool → Test → ℕ → ℕ → ℕ → ℕ → List Instruction
order_code true test word value on_true on_false =
    Load (word + 1) ∷ Branch tests.Greater (high value) (on_true + 3) 0
    ∷ Branch tests.Equal (high value) 0 (on_false + 2)
    ∷ Load word ∷ Branch test (low value) on_true on_false ∷ []
order_code false test word value on_true on_false = Load word ∷ Branch test (low value) on_true on_false ∷ []

-- a test for equality under a mask
abbrev pub masked_code : Bool → ℕ → ℕ → ℕ → ℕ → ℕ → List Instruction
masked_code true word mask value on_true on_false =
    Load (word + 1) ∷ Mask (high mask) ∷ Branch tests.Equal (bit_and (high value) (high mask)) 0 (on_false + 3)
    ∷ Load word ∷ Mask (low mask) ∷ Branch tests.Equal (bit_and (low value) (low mask)) on_true on_false ∷ []
masked_code false word mask value on_true on_false =
    Load word ∷ Mask (low mask) ∷ Branch tests.Equal (bit_and (low value) (low mask)) on_true on_false ∷ []

-- A comparison: where it holds, what follows it comes next; where it doesn't, so many instructions are skipped.
abbrev pub comparing_code : Comparing → Bool → ℕ → ℕ → ℕ → ℕ → List Instruction
comparing_code NotEqual wide word value value_two after = equal_code wide word value after 0
comparing_code Less wide word value value_two after = order_code wide tests.GreaterOrEqual word value after 0
comparing_code LessOrEqual wide word value value_two after = order_code wide tests.Greater word value after 0
comparing_code Equal wide word value value_two after = equal_code wide word value 0 after
comparing_code GreaterOrEqual wide word value value_two after = order_code wide tests.GreaterOrEqual word value 0 after
comparing_code Greater wide word value value_two after = order_code wide tests.Greater word value 0 after
comparing_code MaskedEqual wide word value value_two after = masked_code wide word value value_two 0 after

abbrev pub comparison_code : Bool → Comparison → ℕ → List Instruction
comparison_code wide c after = comparing_code c.comparing wide (word_of c.argument) c.value c.value_two after

-- the comparisons of a rule: where one doesn't hold, the others and one instruction more are skipped
abbrev pub comparisons_code : Bool → List Comparison → List Instruction
comparisons_code wide [] = []
comparisons_code wide (c ∷ cs) =
    comparison_code wide c (length (comparisons_code wide cs) + 1) ++ comparisons_code wide cs

-- ---- rules

-- Comparisons, a return where all of them hold, and a load of the call's number, which comes next where one doesn't.
abbrev pub return_code : List Instruction → ℕ → List Instruction
return_code code value = code ++ Return value ∷ Load 0 ∷ []

-- what is done at a call by its number only
abbrev pub direct_code : List Instruction → ℕ → ℕ → List Instruction
direct_code [] value number = Branch tests.Equal number 0 1 ∷ Return value ∷ []
direct_code (i ∷ code) value number =
    Branch tests.Equal number 0 (length (i ∷ code) + 1) ∷ return_code (i ∷ code) value

-- what is done at a call through another one
abbrev pub through_code : List Instruction → ℕ → ℕ → ℕ → List Instruction
through_code code value number operation =
    Branch tests.Equal number 0 (length code + 3) ∷ Load 4 ∷ Branch tests.Equal operation 0 (length code + 1)
    ∷ return_code code value

-- What is done at a call. A comes in as the number of the call, and goes out as that where the rule doesn't speak of
-- it.
abbrev pub operation_code : List Instruction → ℕ → ℕ → Option ℕ → List Instruction
operation_code code value number None = direct_code code value number
operation_code code value number (Some operation) = through_code code value number operation

abbrev pub call_code : List Instruction → ℕ → Call → List Instruction
call_code code value call = operation_code code value call.number call.operation

-- what is done by a rule, call after call
abbrev pub rule_code : Bool → RuleData → List Instruction
rule_code wide rule =
    flat_map (call_code (comparisons_code wide rule.comparisons) (returned_value_of rule.response)) rule.calls

-- the code of a rule, if this is its place
abbrev pub rule_at : Reading → Bool → ℕ → RuleData → List Instruction
rule_at reading wide place rule = if order reading rule == place then rule_code wide rule else []

-- a pass over the rules: those with this place
abbrev pub round_code : Reading → Bool → List RuleData → ℕ → List Instruction
round_code reading wide rules place = flat_map (rule_at reading wide place) rules

-- the places that a rule can have
abbrev pub places : List ℕ
places = 0 ∷ 1 ∷ 2 ∷ 3 ∷ 4 ∷ 5 ∷ 6 ∷ 7 ∷ []

-- ---- newer calls

-- the least number that is above those of calls, and not below another number
abbrev pub above_calls : ℕ → List Call → ℕ
above_calls least calls = fold (λ above (call : Call). max above (call.number + 1)) least calls

-- the least number that is above those of all calls of rules
abbrev pub above_rules : List RuleData → ℕ
above_rules rules = fold (λ above (rule : RuleData). above_calls above rule.calls) 0 rules

-- what is done at calls whose number is at least this one: they fail with ENOSYS
abbrev pub newer_code : ℕ → List Instruction
newer_code least =
    if nat_lt least (2 ^ 32) then Branch tests.GreaterOrEqual least 0 1 ∷ Return (0x00050000 + 38) ∷ [] else []

-- what is done at newer calls, where that is asked for
abbrev pub newer_where : Bool → List RuleData → List Instruction
newer_where true rules = newer_code (above_rules rules)
newer_where false rules = []

-- ---- the whole

-- what is done at an input of a set
abbrev pub body_code : PlanData → SetRulesData → List Instruction
body_code plan part =
    Load 0 ∷ newer_where (plan.newer && refuses_newer plan.default) part.rules
    ++ flat_map (round_code plan.reading (is_wide part.set) part.rules) places
    ++ Return (returned_value_of plan.default) ∷ []

-- skips so many instructions where the input isn't of the set
abbrev pub set_code : CallSet → ℕ → List Instruction
set_code X64 size =
    Load 1 ∷ Branch tests.Equal (arch_of X64) 0 3 ∷ Load 0 ∷ Branch tests.Equal 0xffffffff 2 0
    ∷ Branch tests.GreaterOrEqual 0x40000000 0 1 ∷ Skip size ∷ []
set_code X32 size =
    Load 1 ∷ Branch tests.Equal (arch_of X32) 0 3 ∷ Load 0 ∷ Branch tests.Equal 0xffffffff 1 0
    ∷ Branch tests.GreaterOrEqual 0x40000000 1 0 ∷ Skip size ∷ []
set_code set size = Load 1 ∷ Branch tests.Equal (arch_of set) 1 0 ∷ Skip size ∷ []

-- what is done for a set
abbrev pub part_code : PlanData → SetRulesData → List Instruction
part_code plan part = set_code part.set (length (body_code plan part)) ++ body_code plan part

-- the whole filter: at an input of no set the thread is killed
abbrev pub form : PlanData → List Instruction
form plan = flat_map (part_code plan) plan.parts ++ Return 0 ∷ []

-- ---- instructions

-- the number of a test's code
abbrev pub code_of : Test → ℕ
code_of tests.Equal = 0x15
code_of tests.Greater = 0x25
code_of tests.GreaterOrEqual = 0x35
code_of tests.AnyBit = 0x45

-- an instruction as it stands in a file
abbrev pub raw_of : Instruction → RawInsn
raw_of (Load word) = record { code = 0x20; jt = 0; jf = 0; k = 4 * word }
raw_of (Mask k) = record { code = 0x54; jt = 0; jf = 0; k = k }
raw_of (Branch test k on_true on_false) = record { code = code_of test; jt = on_true; jf = on_false; k = k }
raw_of (Skip k) = record { code = 0x05; jt = 0; jf = 0; k = k }
raw_of (Return k) = record { code = 0x06; jt = 0; jf = 0; k = k }

-- the bytes of the whole filter
abbrev pub form_bytes : PlanData → List ℕ
form_bytes plan = spelling (map raw_of (form plan))

-- an instruction whose jumps have their widths
abbrev pub is_short : Instruction → Bool
is_short (Branch test k on_true on_false) = nat_lt on_true (2 ^ 8) && nat_lt on_false (2 ^ 8)
is_short (Skip k) = nat_lt k (2 ^ 32)
is_short _ = true

-- a filter has at most 4096 instructions, whose jumps have their widths
abbrev pub fits : List Instruction → Bool
fits code = nat_le (length code) 4096 && list_all is_short code
