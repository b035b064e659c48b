use Rattle.sf_names.proofs.Common.{into_iter_items}
use Rattle.sf_names.proofs.joining.JoinLemmas.{JoinedSoFar}
use Rattle.sf_names.proofs.joining.join_sets.Given as goal

abbrev pub invariant-loop-names : goal.invariant-loop-names
invariant-loop-names l =
    JoinedSoFar l.initial.all.items l.fn.sets.items l.all.items (into_iter_items l.names-iterator)
