use Rattle.sf_dom.specs.Facts.{Covers}
use Rattle.facts_run.proofs.looking.take_all.Given as goal

abbrev pub invariant-loop-step : goal.invariant-loop-step
invariant-loop-step l = Covers l.facts l.pool
