use Rattle.sf_profile.proofs.Common.{◌≡◌, take, map, fold, view, text_in, with_name}
use Rattle.sf_profile.proofs.telling.push_names.Given as goal

abbrev pub invariant-loop-value : goal.invariant-loop-value
invariant-loop-value l =
    map (λ n. n.now) l.names.keys ≡ fold with_name (map (λ n. n.now) l.initial.names.keys)
    (map text_in (map view (take l.value-index l.items)))
