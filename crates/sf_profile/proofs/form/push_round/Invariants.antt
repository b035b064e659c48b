use Rattle.sf_profile.proofs.Common.{◌≡◌, ◌++◌, take, flat_map, rule_at}
use Rattle.sf_profile.proofs.form.push_round.Given as goal

abbrev pub invariant-loop-rule : goal.invariant-loop-rule
invariant-loop-rule l =
    l.code.items ≡ l.initial.code.items ++ flat_map (rule_at l.reading l.wide l.place) (take l.rule-index l.rules)
