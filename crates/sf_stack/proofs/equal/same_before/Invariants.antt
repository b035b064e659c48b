use Rattle.sf_stack.proofs.Common.{ℕ, ◌<◌, AreSame}
use Rattle.sf_stack.proofs.equal.same_before.Given as goal

abbrev pub invariant-loop-earlier : goal.invariant-loop-earlier
invariant-loop-earlier l = (earlier : ℕ) → earlier < l.earlier → AreSame l.programs earlier l.later → ⊥
