use Rattle.sf_rows.proofs.Common.{◌≡◌, ◌++◌, map, take, string_bytes, flat_map, name_between}
use Rattle.sf_rows.proofs.names.push_set.Given as goal

abbrev pub invariant-loop-call : goal.invariant-loop-call
invariant-loop-call l = map string_bytes l.names.items ≡ map string_bytes l.initial.names.items
    ++ flat_map (name_between l.span.first l.span.last) (take l.call-index l.calls)
