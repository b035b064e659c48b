use Rattle.sf_names.proofs.Common.{members_view, table_view, sets_of_table}
use Rattle.sf_names.proofs.reading.SetLemmas.{SetsSoFar}
use Rattle.sf_names.proofs.reading.sets_of.Given as goal

abbrev pub invariant-loop-set : goal.invariant-loop-set
invariant-loop-set l =
    SetsSoFar (sets_of_table (table_view l.table)) l.sets.items (sets_of_table (members_view l.set-iterator))
