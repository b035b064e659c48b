use Rattle.sf_evaluate.proofs.Common.{AreCallsOf}
use Rattle.sf_evaluate.proofs.calls.calls_of.Given as goal

abbrev pub invariant-loop-one : goal.invariant-loop-one
invariant-loop-one l = AreCallsOf l.yielded l.calls.items
