use Rattle.sf_profile.proofs.Common.{◌≡◌, take, map, filter, is_nowhere}
use Rattle.sf_profile.proofs.telling.nowhere_names.Given as goal

abbrev pub invariant-loop-name : goal.invariant-loop-name
invariant-loop-name l =
    map (λ n. n.now) l.nowhere.items
    ≡ filter (is_nowhere l.settings) (map (λ n. n.now) (take l.name-index l.names))
