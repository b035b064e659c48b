use Rattle.sf_dom.proofs.Common.{◌≡◌, ◌<◌, List, length, Option, Known, GoingBackGives, IsNarrowed}
use Rattle.sf_dom.proofs.assuming.propagate_back.Given as goal

-- what it gives to go on from here, it gives from the beginning
abbrev pub invariant-loop-op : goal.invariant-loop-op
invariant-loop-op l = record {
  within : l.at < length l.pool;
  narrowed : IsNarrowed l.fn.nodes.known l.nodes.known l.excluded l.pool;
  variables : l.nodes.variables ≡ l.fn.nodes.variables;
  on : (r : Option (List Known)) → GoingBackGives l.nodes.known l.excluded l.pool l.at r
      → GoingBackGives l.fn.nodes.known l.excluded l.pool l.fn.from r;
}

abbrev pub decreases-loop-op : goal.decreases-loop-op
decreases-loop-op l = l.at
