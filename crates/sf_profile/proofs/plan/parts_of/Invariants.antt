use Rattle.sf_profile.proofs.Common.{◌≡◌, take, map, rules_of_set}
use Rattle.sf_profile.proofs.plan.parts_of.Given as goal

abbrev pub invariant-loop-set : goal.invariant-loop-set
invariant-loop-set l =
    l.parts.items ≡ map (rules_of_set l.settings l.profile.rules) (take l.set-index l.profile.sets)
