use Rattle.sf_dom.proofs.Common.{◌≡◌, ℕ, ◌-◌, ◌<◌, ◌≤◌, length, take, node_at, forward_node, IsReduction, variables_to, AreConsistent, known_at}
use Rattle.sf_dom.proofs.propagation.append.Given as goal

abbrev pub invariant-loop-i : goal.invariant-loop-i
invariant-loop-i l = record {
  count : length l.nodes.known ≡ l.i;
  kept : take (length l.fn.nodes.known) l.nodes.known ≡ l.fn.nodes.known;
  longer : length l.fn.nodes.known ≤ length l.nodes.known;
  listed : l.nodes.variables ≡ variables_to l.fn.nodes.variables l.nodes.known l.pool (length l.fn.nodes.known)
      (l.i - length l.fn.nodes.known);
  ruled : AreConsistent l.fn.nodes.known → (k : ℕ) → length l.fn.nodes.known ≤ k → k < l.i
      → IsReduction l.excluded k (forward_node l.nodes.known (node_at l.pool k)) (known_at l.nodes.known k);
}
