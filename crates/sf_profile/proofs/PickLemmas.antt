-- The first rule by places is the one that counts.
use Rattle.sf_profile.proofs.Common.{◌≡◌, ℕ, zero, suc, ◌+◌, ◌<◌, ◌≤◌, List, [], ◌∷◌, Option, Some, refl, ap, ◌∙◌, arith, Reading, Response, RuleData, strictness, order, preferred, pick, places, common_steps, nat_tests}
use Rattle.sf_profile.proofs.rules.RuleLemmas.{first_at, first_in}

-- so many numbers, one after the other
abbrev counted : ℕ → ℕ → List ℕ
counted n zero = []
counted n (suc m) = n ∷ counted (n + 1) m

at_is : (reading : Reading) (n : ℕ) (rules : List RuleData) (q : RuleData) → first_at reading n rules ≡ Some q
    → order reading q ≡ n
at_is reading n [] q e = absurd cc
at_is reading n (rule ∷ rules) q e = grind (arith, common_steps, nat_tests, at_is reading n rules q)

in_is : (reading : Reading) (n m : ℕ) (rules : List RuleData) (q : RuleData)
    → first_in reading (counted n m) rules ≡ Some q → n ≤ order reading q
in_is reading n zero rules q e = absurd cc
in_is reading n (suc m) rules q e = grind (arith, common_steps, at_is, in_is reading (n + 1) m rules q)

preferred_first : (reading : Reading) (rule : RuleData) (o : Option RuleData)
    → ((q : RuleData) → o ≡ Some q → order reading rule ≤ order reading q) → rule ≡ preferred reading rule o
preferred_first reading rule o h = grind (arith, common_steps, nat_tests)

picked : (reading : Reading) (n m : ℕ) (rule : RuleData) (rules : List RuleData) → n ≤ order reading rule
    → order reading rule < n + m → first_in reading (counted n m) (rule ∷ rules)
    ≡ Some (preferred reading rule (first_in reading (counted n m) rules))
picked reading n zero rule rules low high = absurd (omega arith)
picked reading n (suc m) rule rules low high =
    grind (arith, common_steps, nat_tests, at_is, in_is, preferred_first, picked reading (n + 1) m rule rules)

pub strictness_small : (response : Response) → strictness response < 8
strictness_small response = grind arith

pub order_small : (reading : Reading) (rule : RuleData) → order reading rule < 8
order_small reading rule = grind arith

pub pick_is : (reading : Reading) (rules : List RuleData) → first_in reading places rules ≡ pick reading rules
pick_is reading [] = refl
pick_is reading (rule ∷ rules) =
    picked reading 0 8 rule rules (omega arith) (omega (arith, order_small reading rule))
    ∙ ap (λ o. Some (preferred reading rule o)) (pick_is reading rules)
