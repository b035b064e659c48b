-- A written filter answers each input as the profile means.
use Rattle.sf_profile.proofs.Common.{◌≡◌, ℕ, ◌≤◌, List, [], ◌∷◌, ◌++◌, append_assoc, Bool, true, false, length, map, Option, Some, refl, ap, ◌∙◌, sym, arith, if◌then◌else◌, ◌&&◌, filter, find, flat_map, nat_tests, Input, IsInput, Answers, CallSet, Response, Errno, Instruction, Return, RuleData, SetRulesData, PlanData, number_in, is_wide, is_of_set, says, pick, is_newer, refuses_newer, response_of, response_in, response_of_part, meaning, AreInsns, newer_where, round_code, places, body_code, set_code, part_code, form, returned_value_of, raw_of, subst, IsAnswer, answer_of_response, common_steps}
use Rattle.sf_insn.specs.declared.ops.Test.TheVariants as tests
use Rattle.sf_profile.proofs.Returns.{returned, skip_all}
use Rattle.sf_profile.proofs.ComparisonLemmas.{Goes, choose}
use Rattle.sf_profile.proofs.rules.RuleLemmas.{after_rule, passes_go}
use Rattle.sf_profile.proofs.PickLemmas.{pick_is}
use Rattle.sf_profile.proofs.form.NewerLemmas.{newer_goes}
use Rattle.sf_profile.proofs.form.AnswerLemmas.{answers}
use Rattle.sf_profile.proofs.RunLemmas.{insn_of, return_is}
use Rattle.sf_profile.proofs.LawfulLemmas.{form_lawful}

-- ---- an input of a set

default_after : (default : Response) (o : Option RuleData) → after_rule o (Some (returned_value_of default))
    ≡ Some (returned_value_of (response_of default o))
default_after default o = grind arith

chosen : (b : Bool) (r s : Response) → choose b (Some (returned_value_of r)) (Some (returned_value_of s))
    ≡ Some (returned_value_of (if b then r else s))
chosen b r s = grind arith

body_goes : (plan : PlanData) (part : SetRulesData) (d : Input) (more : List Instruction) → IsInput d
    → Goes (body_code plan part ++ more) d 0 (Some (returned_value_of (response_in plan d part)))
body_goes plan part d more input = λ a.
    ap (λ l. returned l d 0 number) (append_assoc (newer ++ passes) (Return (returned_value_of plan.default) ∷ []) more
    ∙ append_assoc newer passes rest)
    ∙ newer_goes asked d part.rules (passes ++ rest) input
    ∙ ap (choose (asked && is_newer number part.rules) (Some (returned_value_of (Errno 38))))
    (passes_go plan.reading (is_wide part.set) d part.rules places rest input
    ∙ ap (λ o. after_rule o (Some (returned_value_of plan.default)))
    (pick_is plan.reading (filter (says (is_wide part.set) d) part.rules))
    ∙ default_after plan.default (pick plan.reading (filter (says (is_wide part.set) d) part.rules)))
    ∙ chosen (asked && is_newer number part.rules) (Errno 38)
    (response_of plan.default (pick plan.reading (filter (says (is_wide part.set) d) part.rules)))
  where
    number : ℕ
    number = number_in d

    asked : Bool
    asked = plan.newer && refuses_newer plan.default

    newer : List Instruction
    newer = newer_where asked part.rules

    passes : List Instruction
    passes = flat_map (round_code plan.reading (is_wide part.set) part.rules) places

    rest : List Instruction
    rest = Return (returned_value_of plan.default) ∷ more

-- ---- sets

set_goes : (set : CallSet) (d : Input) (body more : List Instruction) (r s : Option ℕ) → Goes (body ++ more) d 0 r
    → Goes more d 0 s → Goes (set_code set (length body) ++ (body ++ more)) d 0 (choose (is_of_set set d) r s)
set_goes set d body more r s p q a = grind (arith, common_steps, nat_tests, skip_all)

-- ---- the whole

parts_go : (plan : PlanData) (d : Input) (parts : List SetRulesData) → IsInput d
    → Goes (flat_map (part_code plan) parts ++ Return 0 ∷ []) d 0
    (Some (returned_value_of (response_of_part plan d (find (λ (part : SetRulesData). is_of_set part.set d) parts))))
parts_go plan d [] input = λ a. refl
parts_go plan d (part ∷ parts) input =
    let others = flat_map (part_code plan) parts ++ Return 0 ∷ [] in
    let body = body_code plan part in
    λ a.
    ap (λ l. returned l d 0 a) (append_assoc (part_code plan part) (flat_map (part_code plan) parts) (Return 0 ∷ [])
    ∙ append_assoc (set_code part.set (length body)) body others)
    ∙ set_goes part.set d body others (Some (returned_value_of (response_in plan d part)))
    (Some (returned_value_of (response_of_part plan d (find (λ (part : SetRulesData). is_of_set part.set d) parts))))
    (body_goes plan part d others input) (parts_go plan d parts input) a
    ∙ by (is_of_set part.set d)
  where
    by : (b : Bool) → choose b (Some (returned_value_of (response_in plan d part)))
        (Some (returned_value_of (response_of_part plan d
        (find (λ (part : SetRulesData). is_of_set part.set d) parts))))
        ≡ Some (returned_value_of (response_of_part plan d (if b then Some part
        else find (λ (part : SetRulesData). is_of_set part.set d) parts)))
    by true = refl
    by false = refl

pub form_answers : (plan : PlanData) (d : Input) → length (form plan) ≤ 4096 → AreInsns (map raw_of (form plan))
    → IsInput d → Answers (map insn_of (form plan) ∷ []) d (meaning plan d)
form_answers plan d short fields input =
    let response = response_of_part plan d (find (λ (part : SetRulesData). is_of_set part.set d) plan.parts) in
    let value = return_is (form plan) d (returned_value_of response) (form_lawful plan short fields)
    (parts_go plan d plan.parts input 0) in
    subst (λ v. IsAnswer (v ∷ []) (answer_of_response response)) (sym value) (answers response)
