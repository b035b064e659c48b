use Rattle.sf_stack_warnings.proofs.Common.{◌≡◌, not, take, true, list_all, may_let_through}
use Rattle.sf_stack_warnings.proofs.passing.each_refuses.Given as goal

abbrev pub invariant-loop-place : goal.invariant-loop-place
invariant-loop-place l = list_all (λ r. not (may_let_through r.answer.action)) (take l.place l.settled.regions) ≡ true
