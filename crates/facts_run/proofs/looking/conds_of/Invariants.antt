use Rattle.std.proofs.Common.{length}
use Rattle.std.specs.Prelude.{All}
use Rattle.sf_sym.specs.Pool.{IsCondBelow}
use Rattle.facts_run.proofs.looking.conds_of.Given as goal

abbrev pub invariant-loop-step : goal.invariant-loop-step
invariant-loop-step l = All (IsCondBelow (length l.pool)) l.conds.items
