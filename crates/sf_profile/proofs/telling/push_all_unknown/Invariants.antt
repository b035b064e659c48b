use Rattle.sf_profile.proofs.Common.{◌≡◌, ◌++◌, take, map, string_bytes, flat_map, unknown_line}
use Rattle.sf_profile.proofs.telling.push_all_unknown.Given as goal

abbrev pub invariant-loop-name : goal.invariant-loop-name
invariant-loop-name l =
    string_bytes l.text ≡ string_bytes l.initial.text
    ++ flat_map unknown_line (map (λ n. n.now) (take l.name-index l.names))
