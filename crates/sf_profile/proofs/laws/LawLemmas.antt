-- Laws of what a profile means.
use Rattle.sf_profile.proofs.Common.{common_steps, ◌≡◌, ◌<◌, ◌≤◌, List, [], ◌∷◌, false, Option, Some, None, refl, ap, ◌∙◌, arith, ◌⊎◌, inl, inr, lt-ltb, le-ltb, All, cases_lt, All-head, All-tail, same_Some, Data, Input, action_number, rank, Reading, Strictest, Mildest, Response, Settings, RuleData, SetRulesData, PlanData, is_excluded, is_included, answer_of_response, number_in, is_newer, response_in, order, preferred, pick, strictness}
use Rattle.sf_profile.proofs.PickLemmas.{strictness_small}

pub only_newer : (plan : PlanData) (d : Input) (part : SetRulesData) → is_newer (number_in d) part.rules ≡ false
    → response_in plan d part ≡ response_in (record plan { newer = false }) d part
only_newer plan d part none = grind (arith, common_steps)

-- ---- what is picked is among the rules, and no rule is before it

-- a rule is among some
abbrev IsAmong : RuleData → List RuleData → Type 0
IsAmong q [] = ⊥
IsAmong q (rule ∷ rules) = (q ≡ rule) ⊎ IsAmong q rules

chosen : (reading : Reading) (rule : RuleData) (later : Option RuleData) → (preferred reading rule later ≡ rule)
    ⊎ (later ≡ Some (preferred reading rule later))
chosen reading rule later = grind arith

among : (reading : Reading) (rules : List RuleData) (q : RuleData) → pick reading rules ≡ Some q → IsAmong q rules
among reading [] q e = absurd cc
among reading (rule ∷ rules) q e = grind (arith, common_steps, among reading rules)

-- what is preferred isn't after the rule, nor after the later one
not_after : (reading : Reading) (rule : RuleData) (later : Option RuleData)
    → (order reading (preferred reading rule later) ≤ order reading rule)
    × ((q : RuleData) → later ≡ Some q → order reading (preferred reading rule later) ≤ order reading q)
not_after reading rule None = (omega arith, λ q e. absurd cc)
not_after reading rule (Some p) = by (cases_lt (order reading p) (order reading rule))
  where
    by : (order reading p < order reading rule) ⊎ (order reading rule ≤ order reading p)
        → (order reading (preferred reading rule (Some p)) ≤ order reading rule)
        × ((q : RuleData) → Some p ≡ Some q → order reading (preferred reading rule (Some p)) ≤ order reading q)
    by (inl lt) = rw (lt-ltb (order reading p) (order reading rule) lt) (
      omega arith,
      λ q e. let same : order reading p ≡ order reading q = ap (order reading) (same_Some p q e) in omega arith,
    )
    by (inr le) = rw (le-ltb (order reading p) (order reading rule) le) (
      omega arith,
      λ q e. let same : order reading p ≡ order reading q = ap (order reading) (same_Some p q e) in omega arith,
    )

some_picked : (reading : Reading) (rules : List RuleData) (q : RuleData) → IsAmong q rules
    → (p : RuleData) × (pick reading rules ≡ Some p)
some_picked reading [] q h = absurd h
some_picked reading (rule ∷ rules) q h = (preferred reading rule (pick reading rules), refl)

least : (reading : Reading) (rules : List RuleData) (a q : RuleData) → pick reading rules ≡ Some a → IsAmong q rules
    → order reading a ≤ order reading q
least reading [] a q e h = absurd h
least reading (rule ∷ rules) a q e h =
    by (λ p f g. least reading rules p q f g) h (not_after reading rule (pick reading rules))
    (ap (order reading) (same_Some (preferred reading rule (pick reading rules)) a e))
  where
    by : ((p : RuleData) → pick reading rules ≡ Some p → IsAmong q rules → order reading p ≤ order reading q)
        → (q ≡ rule) ⊎ IsAmong q rules
        → (order reading (preferred reading rule (pick reading rules)) ≤ order reading rule)
        × ((r : RuleData) → pick reading rules ≡ Some r
        → order reading (preferred reading rule (pick reading rules)) ≤ order reading r)
        → order reading (preferred reading rule (pick reading rules)) ≡ order reading a
        → order reading a ≤ order reading q
    by later (inl own) before same =
        let here : order reading q ≡ order reading rule = ap (order reading) own in
        omega (arith, before.0)
    by later (inr other) before same =
        let p = some_picked reading rules q other in
        omega (arith, before.1 p.0 p.1, later p.0 p.1 other)

pub bounds : (reading : Reading) (rules : List RuleData) (a b c : RuleData) → pick Strictest rules ≡ Some a
    → pick reading rules ≡ Some b → pick Mildest rules ≡ Some c
    → (strictness a.response ≤ strictness b.response) × (strictness b.response ≤ strictness c.response)
bounds reading rules a b c p q r =
    let there = among reading rules b q in (
      least Strictest rules a b p there,
      omega (arith, least Mildest rules c b r there, strictness_small b.response, strictness_small c.response),
    )

-- one of some rules has the response that all of them have
has_the_response : (rules : List RuleData) (response : Response) (q : RuleData)
    → All (λ (r : RuleData). r.response ≡ response) rules → IsAmong q rules → q.response ≡ response
has_the_response [] response q all h = absurd h
has_the_response (rule ∷ rules) response q all (inl own) =
    ap (λ (r : RuleData). r.response) own ∙ All-head (λ (r : RuleData). r.response ≡ response) rule rules all
has_the_response (rule ∷ rules) response q all (inr other) =
    has_the_response rules response q (All-tail (λ (r : RuleData). r.response ≡ response) rule rules all) other

pub agreed : (reading : Reading) (rules : List RuleData) (response : Response) (a : RuleData)
    → All (λ (r : RuleData). r.response ≡ response) rules → pick reading rules ≡ Some a → a.response ≡ response
agreed reading rules response a all e = has_the_response rules response a all (among reading rules a e)

-- ---- rules apply by their words

-- the settings with other calls, and others that no rule's words speak of
pub applied_by_words : (s t : Settings) (d : Option Data) → s.machine ≡ t.machine → s.caps ≡ t.caps
    → s.kernel ≡ t.kernel
    → (is_included s d ≡ is_included t d) × (is_excluded s d ≡ is_excluded t d)
applied_by_words s t d machine caps kernel = rw (machine, caps, kernel) (refl, refl)

-- ---- the order of actions

pub before_by_rank : (a b : Response) → strictness a < strictness b
    → rank (action_number (answer_of_response a).action) < rank (action_number (answer_of_response b).action)
before_by_rank a b h = grind arith
