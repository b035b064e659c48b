use Rattle.sf_crew.proofs.Common.{◌≡◌, length}
use Rattle.sf_crew.proofs.workers.setup.workers_of.Given as goal

abbrev pub invariant-loop-number : goal.invariant-loop-number
invariant-loop-number g l = record {
  workers : length l.workers.items ≡ l.number;
  thieves : length l.thieves.items ≡ l.number;
}
