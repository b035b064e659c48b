-- What a profile means: its answer to each input.
use Rattle.std.specs.Prelude.{ℕ, ◌+◌, ◌-◌, ◌*◌, ◌%◌, ◌^◌, Bool, true, false, ◌==◌, ◌&&◌, ◌||◌, not, nat_lt, nat_le, bit_and, if◌then◌else◌, List, [], ◌∷◌, find, filter, Option, Some, None, slice_index}
use Rattle.sf_profile.specs.Common.{list_any, list_all, Input, Answer, CallSet, X64, X32, I386, Aarch64, Arm, Argument, Arg0, Arg1, Arg2, Arg3, Arg4, Arg5, Comparing, NotEqual, Less, LessOrEqual, Equal, GreaterOrEqual, Greater, MaskedEqual, Comparison, Response, KillProcess, KillThread, Trap, Errno, Notify, Tracer, Log, Allow, Call, Reading, Strictest, Mildest, First}
use Rattle.sf_run.specs.declared.action.Action.TheVariants as actions
use Rattle.sf_profile.specs.Data.{RuleData, SetRulesData, PlanData}

-- ---- answers

-- the answer that a response stands for; its data has 16 bits
abbrev pub answer_of_response : Response → Answer
answer_of_response KillProcess = record { action = actions.KillProcess; info = 0 }
answer_of_response KillThread = record { action = actions.KillThread; info = 0 }
answer_of_response Trap = record { action = actions.Trap; info = 0 }
answer_of_response (Errno number) = record { action = actions.Errno; info = number % 2 ^ 16 }
answer_of_response Notify = record { action = actions.UserNotif; info = 0 }
answer_of_response (Tracer number) = record { action = actions.Trace; info = number % 2 ^ 16 }
answer_of_response Log = record { action = actions.Log; info = 0 }
answer_of_response Allow = record { action = actions.Allow; info = 0 }

-- ---- sets of calls

-- the number of a set's architecture
abbrev pub arch_of : CallSet → ℕ
arch_of X64 = 0xc000003e
arch_of X32 = 0xc000003e
arch_of I386 = 0x40000003
arch_of Aarch64 = 0xc00000b7
arch_of Arm = 0x40000028

-- the arguments of a set's calls have 64 bits; else they have 32
abbrev pub is_wide : CallSet → Bool
is_wide X64 = true
is_wide Aarch64 = true
is_wide _ = false

-- the number of a call that x86-64 has with 64-bit pointers: those of x32 begin at 2 ^ 30, and 2 ^ 32 - 1 isn't one of
-- them
abbrev pub is_x64_number : ℕ → Bool
is_x64_number number = nat_lt number (2 ^ 30) || (number == 2 ^ 32 - 1)

-- the word of an input with the number of the call, and that with the number of the architecture
abbrev pub number_in : Input → ℕ
number_in d = slice_index d.words 0

abbrev pub arch_in : Input → ℕ
arch_in d = slice_index d.words 1

-- the numbers of a set, where its architecture has several
abbrev pub is_number_of_set : CallSet → ℕ → Bool
is_number_of_set X64 number = is_x64_number number
is_number_of_set X32 number = not (is_x64_number number)
is_number_of_set _ number = true

-- the input is a call of this set
abbrev pub is_of_set : CallSet → Input → Bool
is_of_set set d = (arch_in d == arch_of set) && is_number_of_set set (number_in d)

-- ---- comparisons

-- the word of an input with the low half of an argument; the high half is the next word
abbrev pub word_of : Argument → ℕ
word_of Arg0 = 4
word_of Arg1 = 6
word_of Arg2 = 8
word_of Arg3 = 10
word_of Arg4 = 12
word_of Arg5 = 14

-- an argument of an input, all 64 bits of it
abbrev pub argument_in : Argument → Input → ℕ
argument_in argument d = slice_index d.words (word_of argument + 1) * 2 ^ 32 + slice_index d.words (word_of argument)

-- a number cut to the bits that the arguments of a set have
abbrev pub cut : Bool → ℕ → ℕ
cut true n = n % 2 ^ 64
cut false n = n % 2 ^ 32

-- what a comparison asks of the argument `a`, of its value `v` and its second value `w`; numbers have no sign
abbrev pub compares : Comparing → ℕ → ℕ → ℕ → Bool
compares NotEqual a v w = not (a == v)
compares Less a v w = nat_lt a v
compares LessOrEqual a v w = nat_le a v
compares Equal a v w = a == v
compares GreaterOrEqual a v w = nat_le v a
compares Greater a v w = nat_lt v a
compares MaskedEqual a v w = bit_and a v == bit_and w v

-- a comparison holds of an input, where arguments have 64 bits, or 32
abbrev pub holds : Bool → Input → Comparison → Bool
holds wide d c = compares c.comparing (cut wide (argument_in c.argument d)) (cut wide c.value) (cut wide c.value_two)

-- ---- rules

-- where a call goes through socketcall or ipc, the low half of the first argument stands for it
abbrev pub is_operation : Input → Option ℕ → Bool
is_operation d None = true
is_operation d (Some operation) = slice_index d.words 4 == operation

-- the input is this call
abbrev pub is_call : Input → Call → Bool
is_call d call = (number_in d == call.number) && is_operation d call.operation

-- a rule says something of an input: the input is one of its calls, and all its comparisons hold
abbrev pub says : Bool → Input → RuleData → Bool
says wide d rule = list_any (is_call d) rule.calls && list_all (holds wide d) rule.comparisons

-- the order of precedence of the actions, the highest first: that of `rank`, which orders the actions' numbers
abbrev pub strictness : Response → ℕ
strictness KillProcess = 0
strictness KillThread = 1
strictness Trap = 2
strictness (Errno number) = 3
strictness Notify = 4
strictness (Tracer number) = 5
strictness Log = 6
strictness Allow = 7

-- rules without comparisons come before those with some
abbrev pub comparing_last : List Comparison → ℕ
comparing_last [] = 0
comparing_last (c ∷ cs) = 1

-- a rule's place among those that say something: the least one counts
abbrev pub order : Reading → RuleData → ℕ
order Strictest rule = strictness rule.response
order Mildest rule = 7 - strictness rule.response
order First rule = comparing_last rule.comparisons

-- of a rule and the one that counts among the later ones, the one that counts: the earlier one, unless its place is
-- after that of the later one
abbrev pub preferred : Reading → RuleData → Option RuleData → RuleData
preferred reading rule None = rule
preferred reading rule (Some later) = if nat_lt (order reading later) (order reading rule) then later else rule

-- which of the rules counts
abbrev pub pick : Reading → List RuleData → Option RuleData
pick reading [] = None
pick reading (rule ∷ rules) = Some (preferred reading rule (pick reading rules))

-- ---- the whole

-- calls that are newer than the profile fail only where the default doesn't let them through
abbrev pub refuses_newer : Response → Bool
refuses_newer Allow = false
refuses_newer Log = false
refuses_newer (Tracer number) = false
refuses_newer _ = true

-- each call that a rule speaks of has a number below this one
abbrev pub is_newer : ℕ → List RuleData → Bool
is_newer number rules =
    list_all (λ (rule : RuleData). list_all (λ (call : Call). nat_lt call.number number) rule.calls) rules

-- the response of the rule that counts, or the default where no rule says anything
abbrev pub response_of : Response → Option RuleData → Response
response_of default None = default
response_of default (Some rule) = rule.response

-- what becomes of an input of a set
abbrev pub response_in : PlanData → Input → SetRulesData → Response
response_in plan d part =
    if (plan.newer && refuses_newer plan.default) && is_newer (number_in d) part.rules then Errno 38
    else response_of plan.default (pick plan.reading (filter (says (is_wide part.set) d) part.rules))

-- what becomes of an input of the set that is found; where none is, its thread is killed
abbrev pub response_of_part : PlanData → Input → Option SetRulesData → Response
response_of_part plan d None = KillThread
response_of_part plan d (Some part) = response_in plan d part

-- the profile's answer to an input
abbrev pub meaning : PlanData → Input → Answer
meaning plan d =
    answer_of_response (response_of_part plan d (find (λ (part : SetRulesData). is_of_set part.set d) plan.parts))
