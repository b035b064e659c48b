use Rattle.sf_stack_warnings.proofs.Common.{AreAddedBefore}
use Rattle.sf_stack_warnings.proofs.errno.zero_errors.Given as goal

abbrev pub invariant-loop-place : goal.invariant-loop-place
invariant-loop-place l = AreAddedBefore l.settled l.place l.numbers.items l.seen.keys
