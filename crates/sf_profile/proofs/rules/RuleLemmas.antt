-- What the rules of a written filter return.
use Rattle.sf_profile.proofs.Common.{◌≡◌, ℕ, ◌+◌, List, [], ◌∷◌, ◌++◌, append_assoc, Bool, true, false, length, Option, Some, None, refl, ap, ◌∙◌, sym, arith, if◌then◌else◌, ◌==◌, ◌&&◌, ◌||◌, filter, slice_index, list_all, list_any, flat_map, Input, IsInput, Call, Reading, Instruction, Load, Branch, Return, RuleData, number_in, is_operation, is_call, holds, says, order, comparisons_code, return_code, direct_code, through_code, operation_code, call_code, rule_code, rule_at, round_code, returned_value_of, common_steps, nat_tests}
use Rattle.sf_insn.specs.declared.ops.Test.TheVariants as tests
use Rattle.sf_profile.proofs.Returns.{returned, skip_more}
use Rattle.sf_profile.proofs.ComparisonLemmas.{Goes, choose, comparisons_go}

-- the code of comparisons leads on where all of them hold, and behind the next instruction where one doesn't
abbrev Asks : List Instruction → Input → Bool → Type 0
Asks code d asked = (more : List Instruction) (r s : Option ℕ) → Goes more d 0 r → Goes more d 1 s → (a : ℕ)
    → returned (code ++ more) d 0 a ≡ choose asked r s

-- ---- calls

return_goes : (code : List Instruction) (d : Input) (asked : Bool) (v : ℕ) (more : List Instruction) → Asks code d asked
    → (a : ℕ) → returned (return_code code v ++ more) d 0 a ≡ choose asked (Some v) (returned more d 0 (number_in d))
return_goes code d asked v more h a =
    ap (λ l. returned l d 0 a) (append_assoc code (Return v ∷ Load 0 ∷ []) more)
    ∙ h (Return v ∷ Load 0 ∷ more) (Some v) (returned more d 0 (number_in d)) (λ b. refl) (λ b. refl) a

-- a return is skipped to the load of the call's number behind it
return_skipped : (front code : List Instruction) (d : Input) (v n : ℕ) (more : List Instruction)
    → n ≡ length (front ++ code) + 1
    → (a : ℕ) → returned (front ++ (return_code code v ++ more)) d n a ≡ returned more d 0 (number_in d)
return_skipped front code d v n more e a =
    ap (λ l. returned (front ++ l) d n a) (append_assoc code (Return v ∷ Load 0 ∷ []) more)
    ∙ ap (λ l. returned l d n a) (sym (append_assoc front code (Return v ∷ Load 0 ∷ more)))
    ∙ skip_more (front ++ code) (Return v ∷ Load 0 ∷ more) d n 1 a e

direct_goes : (code : List Instruction) (d : Input) (asked : Bool) (v number : ℕ) (more : List Instruction)
    → Asks code d asked → returned (direct_code code v number ++ more) d 0 (number_in d)
    ≡ choose ((number_in d == number) && asked) (Some v) (returned more d 0 (number_in d))
direct_goes [] d asked v number more h = by (number_in d == number)
  where
    by : (b : Bool) → returned (Return v ∷ more) d (if b then 0 else 1) (number_in d)
        ≡ choose (b && asked) (Some v) (returned more d 0 (number_in d))
    by true = h (Return v ∷ Load 0 ∷ more) (Some v) (returned more d 0 (number_in d)) (λ b. refl) (λ b. refl) 0
    by false = refl
direct_goes (i ∷ code) d asked v number more h = by (number_in d == number)
  where
    by : (b : Bool) → returned (return_code (i ∷ code) v ++ more) d (if b then 0
        else length (i ∷ code) + 1) (number_in d)
        ≡ choose (b && asked) (Some v) (returned more d 0 (number_in d))
    by true = return_goes (i ∷ code) d asked v more h (number_in d)
    by false = return_skipped [] (i ∷ code) d v (length (i ∷ code) + 1) more refl (number_in d)

through_goes : (code : List Instruction) (d : Input) (asked : Bool) (v number operation : ℕ) (more : List Instruction)
    → Asks code d asked → returned (through_code code v number operation ++ more) d 0 (number_in d)
    ≡ choose (((number_in d == number) && is_operation d (Some operation)) && asked) (Some v)
    (returned more d 0 (number_in d))
through_goes code d asked v number operation more h = first (number_in d == number)
  where
    test : Instruction
    test = Branch tests.Equal operation 0 (length code + 1)

    second : (b : Bool) → returned (return_code code v ++ more) d (if b then 0 else length code + 1)
        (slice_index d.words 4) ≡ choose (b && asked) (Some v) (returned more d 0 (number_in d))
    second true = return_goes code d asked v more h (slice_index d.words 4)
    second false = return_skipped [] code d v (length code + 1) more refl (slice_index d.words 4)

    first : (b : Bool) → returned (Load 4 ∷ test ∷ (return_code code v ++ more)) d (if b then 0 else length code + 3)
        (number_in d)
        ≡ choose ((b && is_operation d (Some operation)) && asked) (Some v) (returned more d 0 (number_in d))
    first true = second (slice_index d.words 4 == operation)
    first false =
        return_skipped (Load 4 ∷ test ∷ []) code d v (length code + 3) more (omega arith) (number_in d)

call_goes : (code : List Instruction) (d : Input) (asked : Bool) (v number : ℕ) (operation : Option ℕ)
    (more : List Instruction) → Asks code d asked
    → returned (operation_code code v number operation ++ more) d 0 (number_in d)
    ≡ choose (((number_in d == number) && is_operation d operation) && asked) (Some v) (returned more d 0 (number_in d))
call_goes code d asked v number None more h =
    direct_goes code d asked v number more h ∙ ap (λ b. choose (b && asked) (Some v) (returned more d 0 (number_in d)))
    (and_true (number_in d == number))
  where
    and_true : (b : Bool) → b ≡ (b && true)
    and_true true = refl
    and_true false = refl
call_goes code d asked v number (Some operation) more h = through_goes code d asked v number operation more h

either : (b c asked : Bool) (r s : Option ℕ) → choose (b && asked) r (choose (c && asked) r s)
    ≡ choose ((b || c) && asked) r s
either b c asked r s = grind arith

calls_go : (code : List Instruction) (d : Input) (asked : Bool) (v : ℕ) (calls : List Call) (more : List Instruction)
    → Asks code d asked → returned (flat_map (call_code code v) calls ++ more) d 0 (number_in d)
    ≡ choose (list_any (is_call d) calls && asked) (Some v) (returned more d 0 (number_in d))
calls_go code d asked v [] more h = refl
calls_go code d asked v (c ∷ cs) more h =
    let others = flat_map (call_code code v) cs in
    ap (λ l. returned l d 0 (number_in d)) (append_assoc (call_code code v c) others more)
    ∙ call_goes code d asked v c.number c.operation (others ++ more) h
    ∙ ap (λ r. choose (is_call d c && asked) (Some v) r) (calls_go code d asked v cs more h)
    ∙ either (is_call d c) (list_any (is_call d) cs) asked (Some v) (returned more d 0 (number_in d))

-- ---- rules

rule_goes : (wide : Bool) (d : Input) (rule : RuleData) (more : List Instruction) → IsInput d
    → returned (rule_code wide rule ++ more) d 0 (number_in d)
    ≡ choose (says wide d rule) (Some (returned_value_of rule.response)) (returned more d 0 (number_in d))
rule_goes wide d rule more input =
    calls_go (comparisons_code wide rule.comparisons) d (list_all (holds wide d) rule.comparisons)
    (returned_value_of rule.response) rule.calls more
    (λ more r s p q a. comparisons_go wide d rule.comparisons more r s input p q a)

-- what a rule returns, if there is one, and else what comes next
abbrev pub after_rule : Option RuleData → Option ℕ → Option ℕ
after_rule None s = s
after_rule (Some rule) s = Some (returned_value_of rule.response)

-- the first of some rules with a place
abbrev pub first_at : Reading → ℕ → List RuleData → Option RuleData
first_at reading place [] = None
first_at reading place (rule ∷ rules) = if order reading rule == place then Some rule else first_at reading place rules

pass_step : (reading : Reading) (wide : Bool) (d : Input) (place : ℕ) (rule : RuleData) (rules : List RuleData)
    (others more : List Instruction) → IsInput d
    → returned (others ++ more) d 0 (number_in d)
    ≡ after_rule (first_at reading place (filter (says wide d) rules)) (returned more d 0 (number_in d))
    → returned (rule_at reading wide place rule ++ (others ++ more)) d 0 (number_in d)
    ≡ after_rule (first_at reading place (filter (says wide d) (rule ∷ rules))) (returned more d 0 (number_in d))
pass_step reading wide d place rule rules others more input h = grind (arith, common_steps, nat_tests, rule_goes)

pass_goes : (reading : Reading) (wide : Bool) (d : Input) (place : ℕ) (rules : List RuleData) (more : List Instruction)
    → IsInput d → returned (round_code reading wide rules place ++ more) d 0 (number_in d)
    ≡ after_rule (first_at reading place (filter (says wide d) rules)) (returned more d 0 (number_in d))
pass_goes reading wide d place [] more input = refl
pass_goes reading wide d place (rule ∷ rules) more input =
    let others = round_code reading wide rules place in
    ap (λ l. returned l d 0 (number_in d)) (append_assoc (rule_at reading wide place rule) others more)
    ∙ pass_step reading wide d place rule rules others more input (pass_goes reading wide d place rules more input)

-- a rule, or else another one
abbrev pub or_next : Option RuleData → Option RuleData → Option RuleData
or_next None other = other
or_next (Some rule) other = Some rule

-- the first of some rules with the first of some places
abbrev pub first_in : Reading → List ℕ → List RuleData → Option RuleData
first_in reading [] rules = None
first_in reading (place ∷ places) rules = or_next (first_at reading place rules) (first_in reading places rules)

after_either : (a b : Option RuleData) (s : Option ℕ) → after_rule a (after_rule b s) ≡ after_rule (or_next a b) s
after_either a b s = grind arith

pub passes_go : (reading : Reading) (wide : Bool) (d : Input) (rules : List RuleData) (places : List ℕ)
    (more : List Instruction) → IsInput d
    → returned (flat_map (round_code reading wide rules) places ++ more) d 0 (number_in d)
    ≡ after_rule (first_in reading places (filter (says wide d) rules)) (returned more d 0 (number_in d))
passes_go reading wide d rules [] more input = refl
passes_go reading wide d rules (place ∷ places) more input =
    let others = flat_map (round_code reading wide rules) places in
    ap (λ l. returned l d 0 (number_in d)) (append_assoc (round_code reading wide rules place) others more)
    ∙ pass_goes reading wide d place rules (others ++ more) input
    ∙ ap (after_rule (first_at reading place (filter (says wide d) rules)))
    (passes_go reading wide d rules places more input)
    ∙ after_either (first_at reading place (filter (says wide d) rules))
    (first_in reading places (filter (says wide d) rules)) (returned more d 0 (number_in d))
