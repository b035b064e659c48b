use Rattle.sf_rows.proofs.Common.{◌≡◌, ◌++◌, map, take, string_bytes, flat_map, names_in}
use Rattle.sf_rows.proofs.names.push_span.Given as goal

abbrev pub invariant-loop-set : goal.invariant-loop-set
invariant-loop-set l = map string_bytes l.names.items ≡ map string_bytes l.initial.names.items
    ++ flat_map (names_in l.arch l.span.first l.span.last) (take l.set-index l.sets)
