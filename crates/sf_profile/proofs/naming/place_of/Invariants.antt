use Rattle.sf_profile.proofs.Common.{◌≡◌, drop, map, place_from}
use Rattle.sf_profile.proofs.naming.place_of.Given as goal

abbrev pub invariant-loop-i : goal.invariant-loop-i
invariant-loop-i l =
    place_from 0 l.name (map (λ n. n.now) l.names) ≡ place_from l.i l.name (map (λ n. n.now) (drop l.i l.names))
