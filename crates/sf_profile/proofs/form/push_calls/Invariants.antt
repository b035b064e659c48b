use Rattle.sf_profile.proofs.Common.{◌≡◌, ◌++◌, take, flat_map, call_code}
use Rattle.sf_profile.proofs.form.push_calls.Given as goal

abbrev pub invariant-loop-call : goal.invariant-loop-call
invariant-loop-call l =
    l.code.items ≡ l.initial.code.items ++ flat_map (call_code l.comparisons l.value) (take l.call-index l.calls)
