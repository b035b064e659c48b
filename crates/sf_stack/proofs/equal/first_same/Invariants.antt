use Rattle.sf_stack.proofs.Common.{ℕ, ◌<◌, AreSame}
use Rattle.sf_stack.proofs.equal.first_same.Given as goal

abbrev pub invariant-loop-later : goal.invariant-loop-later
invariant-loop-later l = (earlier later : ℕ) → later < l.later → AreSame l.programs earlier later → ⊥
