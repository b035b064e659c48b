use Rattle.sf_rows.proofs.Common.{◌≡◌, ◌++◌, take, string_bytes, flat_map, call_row_line}
use Rattle.sf_rows.proofs.lines.push_calls.Given as goal

abbrev pub invariant-loop-row : goal.invariant-loop-row
invariant-loop-row l =
    string_bytes l.text
    ≡ string_bytes l.initial.text ++ flat_map (call_row_line l.subject) (take l.row-index l.row-items)
