use Rattle.sf_rows.proofs.Common.{◌≡◌, map, take, string_bytes, flat_map, names_between, Span}
use Rattle.sf_rows.proofs.names.names_in_spans.Given as goal

abbrev pub invariant-loop-span : goal.invariant-loop-span
invariant-loop-span l = map string_bytes l.names.items
    ≡ flat_map (λ (s : Span). names_between l.sets l.arch s.first s.last) (take l.span-index l.spans)
