use Rattle.sf_dom.proofs.Common.{IsNarrower, IsClosed, Known, freedom}
use Rattle.sf_dom.proofs.known.reduce_known.Given as goal

abbrev pub invariant-loop-next : goal.invariant-loop-next
invariant-loop-next l = record {
  narrower : IsNarrower l.fn.known l.at;
  widest : (k : Known) → IsClosed k → IsNarrower l.fn.known k → IsNarrower l.at k;
}

abbrev pub decreases-loop-next : goal.decreases-loop-next
decreases-loop-next l = freedom l.at
