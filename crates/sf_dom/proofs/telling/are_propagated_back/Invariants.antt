use Rattle.sf_dom.proofs.Common.{ℕ, ◌<◌, length, IsPropagatedBack}
use Rattle.sf_dom.proofs.telling.are_propagated_back.Given as goal

abbrev pub invariant-loop-op : goal.invariant-loop-op
invariant-loop-op l = record {
  within : l.at < length l.pool;
  back : ((n : ℕ) → IsPropagatedBack n l.nodes.known l.pool l.at) → (n : ℕ)
      → IsPropagatedBack n l.nodes.known l.pool l.from;
  on : ((n : ℕ) → IsPropagatedBack n l.nodes.known l.pool l.from) → (n : ℕ)
      → IsPropagatedBack n l.nodes.known l.pool l.at;
}

abbrev pub decreases-loop-op : goal.decreases-loop-op
decreases-loop-op l = l.at
