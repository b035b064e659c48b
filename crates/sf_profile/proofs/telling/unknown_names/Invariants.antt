use Rattle.sf_profile.proofs.Common.{◌≡◌, take, map, filter, is_unknown}
use Rattle.sf_profile.proofs.telling.unknown_names.Given as goal

abbrev pub invariant-loop-name : goal.invariant-loop-name
invariant-loop-name l =
    map (λ n. n.now) l.unknown.items
    ≡ filter (is_unknown l.settings) (map (λ n. n.now) (take l.name-index l.names))
