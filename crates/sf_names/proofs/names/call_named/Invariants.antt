use Rattle.sf_names.proofs.Common.{◌≡◌, drop, find, has_name}
use Rattle.sf_names.proofs.names.call_named.Given as goal

abbrev pub invariant-loop-call : goal.invariant-loop-call
invariant-loop-call l = find (has_name l.name) l.calls ≡ find (has_name l.name) (drop l.call-index l.calls)
