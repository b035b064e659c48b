-- The jumps of a profile's filter have their widths, where the filter isn't too long.
use Rattle.sf_profile.proofs.Common.{common_steps, ◌≡◌, ℕ, ◌+◌, ◌<◌, ◌≤◌, List, [], ◌∷◌, Bool, true, false, length, map, refl, arith, lt-ltb, le-ltb, inl, inr, ◌⊎◌, All, if◌then◌else◌, ◌||◌, ◌==◌, nat_lt, flat_map, list_all, cases_lt, nat_tests, All-nil, All-cons, All-append, All-map, CallSet, Comparison, Instruction, ProfileData, ProfileRuleData, RuleData, Settings, form, fits, is_short, alternatives, calls_named, compares_twice, rule_with, rules_of, plan_of, SetRulesData, rules_of_set}
use Rattle.sf_profile.proofs.JumpLemmas.{IsKept, AreKept, form_kept}

short_is : (i : Instruction) (n : ℕ) → n ≤ 4096 → IsKept (Unit {0}) ⊥ i n → is_short i ≡ true
short_is i n l h = grind (arith, common_steps, nat_tests)

all_short : (tail : ℕ) (code : List Instruction) → length code + tail ≤ 4096 → AreKept (Unit {0}) ⊥ tail code
    → list_all is_short code ≡ true
all_short tail [] l h = refl
all_short tail (i ∷ code) l h =
    rw (short_is i (length code + tail) (omega arith) h.0) (all_short tail code (omega arith) h.1)

-- ---- the rules of a profile

abbrev IsFew : List Comparison → Type 0
IsFew cs = length cs ≤ 6

abbrev HasFew : RuleData → Type 0
HasFew rule = IsFew rule.comparisons

alternatives_few : (cs : List Comparison) → All IsFew (alternatives cs)
alternatives_few cs = by (cases_lt 6 (length cs)) (compares_twice cs)
  where
    singles : All IsFew (map (λ c. c ∷ []) cs)
    singles = All-map IsFew (λ (c : Comparison). c ∷ []) cs (λ k d lt. omega arith)

    by : (6 < length cs) ⊎ (length cs ≤ 6) → (b : Bool)
        → All IsFew (if nat_lt 6 (length cs) || b then map (λ c. c ∷ []) cs else cs ∷ [])
    by (inl more) b = rw (lt-ltb 6 (length cs) more) singles
    by (inr few) true = rw (le-ltb 6 (length cs) few) singles
    by (inr few) false = rw (le-ltb 6 (length cs) few) (All-cons IsFew cs [] few (All-nil IsFew))

rules_few : (s : Settings) (set : CallSet) (rs : List ProfileRuleData) → All HasFew (flat_map (rules_of s set) rs)
rules_few s set [] = All-nil HasFew
rules_few s set (r ∷ rs) =
    All-append HasFew (rules_of s set r) (flat_map (rules_of s set) rs) (by r.applies) (rules_few s set rs)
  where
    rule : List Comparison → RuleData
    rule = rule_with (flat_map (calls_named s set (length r.comparisons == 0)) r.names) r.response

    by : (b : Bool) → All HasFew (if b then map rule (alternatives r.comparisons) else [])
    by true = All-map HasFew rule (alternatives r.comparisons) (alternatives_few r.comparisons)
    by false = All-nil HasFew

-- a profile's filter fits unless it is too long
pub profile_fits : (s : Settings) (p : ProfileData) → length (form (plan_of s p)) ≤ 4096
    → fits (form (plan_of s p)) ≡ true
profile_fits s p size =
    let few : All (λ (part : SetRulesData). All HasFew part.rules) (plan_of s p).parts =
    All-map (λ (part : SetRulesData). All HasFew part.rules) (rules_of_set s p.rules) p.sets
    (λ k set lt. rules_few s _ p.rules) in
    let short = all_short 0 (form (plan_of s p)) (omega arith) (form_kept (Unit {0}) ⊥ (plan_of s p)
    (λ k q lt j r less. (λ u. few k q lt j r less, λ none. absurd none))) in
    grind (arith, nat_tests)

-- so one that doesn't fit is too long
pub profile_long : (s : Settings) (p : ProfileData) → fits (form (plan_of s p)) ≡ false
    → 4096 < length (form (plan_of s p))
profile_long s p h = grind (arith, common_steps, nat_tests, profile_fits)
