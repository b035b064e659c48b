use Rattle.sf_profile.proofs.Common.{◌≡◌, [], take, map, fold, flat_map, with_name, names_where}
use Rattle.sf_profile.proofs.telling.applied_set.Given as goal

abbrev pub invariant-loop-rule : goal.invariant-loop-rule
invariant-loop-rule l =
    map (λ n. n.now) l.names.keys ≡ fold with_name [] (flat_map names_where (take l.rule-index l.rules))
