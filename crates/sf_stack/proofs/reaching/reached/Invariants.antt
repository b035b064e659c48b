use Rattle.sf_stack.proofs.reaching.ReachingLemmas.{Passes}
use Rattle.sf_stack.proofs.reaching.reached.Given as goal

abbrev pub invariant-loop-place : goal.invariant-loop-place
invariant-loop-place l = Passes l.code l.place l.found.items
