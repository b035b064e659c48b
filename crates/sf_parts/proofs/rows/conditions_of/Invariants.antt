use Rattle.sf_parts.proofs.Common.{◌≡◌, take}
use Rattle.sf_parts.proofs.rows.conditions_of.Given as goal

abbrev pub invariant-loop-condition : goal.invariant-loop-condition
invariant-loop-condition l = l.copy.items ≡ take l.condition-index l.conditions
