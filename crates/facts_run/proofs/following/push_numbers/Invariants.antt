use Rattle.sf_dom.specs.Facts.{Covers}
use Rattle.facts_run.proofs.following.push_numbers.Given as goal

abbrev pub invariant-loop-one : goal.invariant-loop-one
invariant-loop-one l = Covers l.facts l.pool
