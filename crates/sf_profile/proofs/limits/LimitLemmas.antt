-- A set whose rules have many calls makes a filter that is too long.
use Rattle.sf_profile.proofs.Common.{common_steps, ◌≡◌, ℕ, zero, suc, ◌+◌, ◌*◌, ◌-◌, ◌<◌, ◌≤◌, List, [], ◌∷◌, ◌++◌, Bool, length, length-append, map, drop, get_or, Option, None, refl, ap, ◌∙◌, arith, if◌then◌else◌, ◌==◌, ◌&&◌, option_and_then, flat_map, drop_more, CallSet, Call, Reading, Instruction, Load, Return, Settings, ProfileData, ProfileRuleData, RuleData, SetRulesData, PlanData, is_wide, order, refuses_newer, comparisons_code, call_code, rule_code, rule_at, round_code, places, newer_where, set_code, part_code, form, returned_value_of, calls_left, rules_of, plan_of, rules_of_set, nat_tests}
use Rattle.sf_profile.proofs.PickLemmas.{order_small}

-- ---- counting

-- one more rule
pub next_left : (rules : List RuleData) (i most : ℕ) (rule : RuleData) → i < length rules
    → calls_left most (drop i rules) ≡ calls_left most (get_or rules i rule ∷ drop (i + 1) rules)
next_left rules i most rule h = rw (drop_more rules i rule h) refl

left_append : (most : ℕ) (xs ys : List RuleData)
    → calls_left most (xs ++ ys) ≡ option_and_then (λ left. calls_left left ys) (calls_left most xs)
left_append most [] ys = refl
left_append most (x ∷ xs) ys = grind (arith, common_steps, left_append (most - length x.calls) xs ys)

-- what is left when the calls of the next rule's rules are taken away: none where they are more
pub onward : (s : Settings) (set : CallSet) (rs : List ProfileRuleData) (i left : ℕ) (r : ProfileRuleData)
    (o : Option ℕ) → i < length rs
    → calls_left 2048 (flat_map (rules_of s set) rs) ≡ calls_left left (flat_map (rules_of s set) (drop i rs))
    → calls_left left (rules_of s set (get_or rs i r)) ≡ o
    → calls_left 2048 (flat_map (rules_of s set) rs)
    ≡ option_and_then (λ left. calls_left left (flat_map (rules_of s set) (drop (i + 1) rs))) o
onward s set rs i left r o h held is =
    let later = λ (left : ℕ). calls_left left (flat_map (rules_of s set) (drop (i + 1) rs)) in
    let next : calls_left left (flat_map (rules_of s set) (drop i rs))
    ≡ option_and_then later (calls_left left (rules_of s set (get_or rs i r))) =
    rw (drop_more rs i r h)
    (left_append left (rules_of s set (get_or rs i r)) (flat_map (rules_of s set) (drop (i + 1) rs))) in
    held ∙ next ∙ ap (λ (o : Option ℕ). option_and_then later o) is

-- ---- how long the code is

call_long : (code : List Instruction) (value : ℕ) (call : Call) → 2 ≤ length (call_code code value call)
call_long code value call = grind (arith, common_steps)

calls_long : (code : List Instruction) (value : ℕ) (calls : List Call)
    → 2 * length calls ≤ length (flat_map (call_code code value) calls)
calls_long code value [] = omega arith
calls_long code value (call ∷ calls) = grind (arith, length-append, call_long, calls_long code value calls)

-- a piece of code that stands at one of the places
one_place : (code : List Instruction) (o : ℕ) → o < 8
    → length code ≤ length (flat_map (λ p. if o == p then code else []) places)
one_place code o h = grind (arith, common_steps, nat_tests, length-append)

-- the code of a rule and of those behind it, over some places
rounds_long : (reading : Reading) (wide : Bool) (rule : RuleData) (rules : List RuleData) (ps : List ℕ)
    → length (flat_map (round_code reading wide (rule ∷ rules)) ps)
    ≡ length (flat_map (λ p. rule_at reading wide p rule) ps) + length (flat_map (round_code reading wide rules) ps)
rounds_long reading wide rule rules [] = refl
rounds_long reading wide rule rules (p ∷ ps) =
    grind (arith, common_steps, length-append, rounds_long reading wide rule rules ps)

-- the code of each rule stands at one of these places
abbrev HavePlaces : Reading → Bool → List ℕ → Type 0
HavePlaces reading wide ps =
    (rule : RuleData) → length (rule_code wide rule) ≤ length (flat_map (λ p. rule_at reading wide p rule) ps)

rules_long : (reading : Reading) (wide : Bool) (ps : List ℕ) → HavePlaces reading wide ps → (rules : List RuleData)
    (most : ℕ) → calls_left most rules ≡ None → 2 * most < length (flat_map (round_code reading wide rules) ps)
rules_long reading wide ps stand [] most h = absurd cc
rules_long reading wide ps stand (rule ∷ rules) most h =
    grind (
      arith,
      common_steps,
      nat_tests,
      stand rule,
      rounds_long reading wide rule rules ps,
      calls_long (comparisons_code wide rule.comparisons) (returned_value_of rule.response) rule.calls,
      rules_long reading wide ps stand rules (most - length rule.calls),
    )

part_long : (plan : PlanData) (part : SetRulesData) → calls_left 2048 part.rules ≡ None
    → 4096 < length (part_code plan part)
part_long plan part h = by places (λ rule. one_place (rule_code (is_wide part.set) rule) (order plan.reading rule)
    (order_small plan.reading rule)) (newer_where (plan.newer && refuses_newer plan.default) part.rules)
    (Return (returned_value_of plan.default))
  where
    inner : (newer rounds : List Instruction) (first last : Instruction) → 4096 < length rounds
        → 4096 < length (first ∷ newer ++ rounds ++ last ∷ [])
    inner newer rounds first last long =
        omega (arith, long, length-append newer rounds, length-append (newer ++ rounds) (last ∷ []))

    by : (ps : List ℕ) → HavePlaces plan.reading (is_wide part.set) ps → (newer : List Instruction) (last : Instruction)
        → 4096 < length (set_code part.set (length (Load 0 ∷ newer
        ++ flat_map (round_code plan.reading (is_wide part.set) part.rules) ps ++ last ∷ []))
        ++ (Load 0 ∷ newer ++ flat_map (round_code plan.reading (is_wide part.set) part.rules) ps ++ last ∷ []))
    by ps stand newer last =
        let rounds = flat_map (round_code plan.reading (is_wide part.set) part.rules) ps in
        let body = Load 0 ∷ newer ++ rounds ++ last ∷ [] in
        omega (
          arith,
          inner newer rounds (Load 0) last (rules_long plan.reading (is_wide part.set) ps stand part.rules 2048 h),
          length-append (set_code part.set (length body)) body,
        )

piece_long : (f : SetRulesData → List Instruction) (g : CallSet → SetRulesData) (sets : List CallSet) (i : ℕ)
    (d : CallSet) → i < length sets → length (f (g (get_or sets i d))) ≤ length (flat_map f (map g sets))
piece_long f g [] i d h = absurd (omega arith)
piece_long f g (set ∷ sets) zero d h = omega (arith, length-append (f (g set)) (flat_map f (map g sets)))
piece_long f g (set ∷ sets) (suc i) d h =
    omega (arith, length-append (f (g set)) (flat_map f (map g sets)), piece_long f g sets i d (omega arith))

-- a profile of which some set has many calls makes a filter that is too long
pub set_long : (s : Settings) (p : ProfileData) (i : ℕ) (set : CallSet) → i < length p.sets
    → calls_left 2048 (flat_map (rules_of s (get_or p.sets i set)) p.rules) ≡ None
    → 4096 < length (form (plan_of s p))
set_long s p i set h many =
    let parts = flat_map (part_code (plan_of s p)) (plan_of s p).parts in
    omega (
      arith,
      length-append parts (Return 0 ∷ []),
      piece_long (part_code (plan_of s p)) (rules_of_set s p.rules) p.sets i set h,
      part_long (plan_of s p) (rules_of_set s p.rules (get_or p.sets i set)) many,
    )
