-- What a written filter returns at calls that are newer than the profile.
use Rattle.sf_profile.proofs.Common.{common_steps, ◌≡◌, ℕ, ◌+◌, List, [], ◌∷◌, ◌++◌, Bool, true, Some, ap, ◌∙◌, arith, lt-ltb, le-ltb, fold, max, ◌&&◌, nat_lt, nat_le, list_all, cases_lt, nat_tests, Input, IsInput, Call, Errno, Instruction, RuleData, number_in, is_newer, above_calls, above_rules, newer_code, newer_where, returned_value_of}
use Rattle.sf_profile.proofs.Returns.{returned}
use Rattle.sf_profile.proofs.ComparisonLemmas.{choose}

-- each call has a number below this one
abbrev below : ℕ → List Call → Bool
below number calls = list_all (λ (call : Call). nat_lt call.number number) calls

calls_above : (least number : ℕ) (calls : List Call)
    → nat_le (above_calls least calls) number ≡ (nat_le least number && below number calls)
calls_above least number [] = grind arith
calls_above least number (c ∷ cs) = grind (arith, nat_tests, calls_above (max least (c.number + 1)) number cs)

rules_above : (least number : ℕ) (rules : List RuleData)
    → nat_le (fold (λ above (rule : RuleData). above_calls above rule.calls) least rules) number
    ≡ (nat_le least number && is_newer number rules)
rules_above least number [] = grind arith
rules_above least number (r ∷ rs) =
    grind (arith, nat_tests, calls_above least number r.calls, rules_above (above_calls least r.calls) number rs)

newer_is : (number : ℕ) (rules : List RuleData) → nat_le (above_rules rules) number ≡ is_newer number rules
newer_is number rules =
    let least : nat_le 0 number ≡ true = grind (arith, nat_tests) in
    rules_above 0 number rules ∙ ap (λ b. b && is_newer number rules) least

code_goes : (d : Input) (least : ℕ) (more : List Instruction) → IsInput d
    → returned (newer_code least ++ more) d 0 (number_in d)
    ≡ choose (nat_le least (number_in d)) (Some (returned_value_of (Errno 38))) (returned more d 0 (number_in d))
code_goes d least more input = grind (arith, common_steps, lt-ltb, le-ltb, cases_lt, nat_tests, returned, choose)

-- newer calls fail where that is asked for
pub newer_goes : (asked : Bool) (d : Input) (rules : List RuleData) (more : List Instruction) → IsInput d
    → returned (newer_where asked rules ++ more) d 0 (number_in d)
    ≡ choose (asked && is_newer (number_in d) rules) (Some (returned_value_of (Errno 38)))
    (returned more d 0 (number_in d))
newer_goes asked d rules more input = grind (arith, common_steps, code_goes, newer_is)
