use Rattle.sf_dom.proofs.Steps.{PassesThrough}
use Rattle.sf_dom.proofs.propagation.propagate.Given as goal

-- all nodes that stand before every later variable have been gone through
abbrev pub invariant-loop-rank : goal.invariant-loop-rank
invariant-loop-rank l = PassesThrough l.fn.nodes l.nodes l.excluded l.pool l.rank
