use Rattle.sf_dom.specs.Facts.{Covers}
use Rattle.facts_run.proofs.following.follow.Given as goal

abbrev pub invariant-loop-step : goal.invariant-loop-step
invariant-loop-step l = Covers l.facts l.pool
