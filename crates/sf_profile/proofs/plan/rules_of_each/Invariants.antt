use Rattle.sf_profile.proofs.Common.{◌≡◌, [], ◌∷◌, take, map, rule_with}
use Rattle.sf_profile.proofs.plan.rules_of_each.Given as goal

abbrev pub invariant-loop-comparison : goal.invariant-loop-comparison
invariant-loop-comparison l =
    l.rules.items ≡ map (rule_with l.calls l.response) (map (λ c. c ∷ []) (take l.comparison-index l.comparisons))
