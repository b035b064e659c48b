use Rattle.sf_sym.proofs.Common.{nodes_of}
use Rattle.sf_sym.proofs.index.IndexLemmas.{IsSearched}
use Rattle.sf_sym.proofs.index.place_of.Given as goal

abbrev pub invariant-loop-next : goal.invariant-loop-next
invariant-loop-next l = IsSearched (nodes_of l.interned_nodes) l.node l.next

abbrev pub decreases-loop-next : goal.decreases-loop-next
decreases-loop-next l = l.next
