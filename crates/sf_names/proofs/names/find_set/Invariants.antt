use Rattle.sf_names.proofs.Common.{◌≡◌, drop, find, has_set}
use Rattle.sf_names.proofs.names.find_set.Given as goal

abbrev pub invariant-loop-names : goal.invariant-loop-names
invariant-loop-names l = find (has_set l.set) l.sets ≡ find (has_set l.set) (drop l.names-index l.sets)
