use Rattle.sf_crew.specs.Benches.{owner_view, IsSameBench}
use Rattle.sf_crew.specs.History.{KeepsHandles}
use Rattle.crew_tests.proofs.stealing.put_many.Given as goal

abbrev pub invariant-loop-id : goal.invariant-loop-id
invariant-loop-id l = record {
  same : IsSameBench l.fn.owner l.owner;
  handles : KeepsHandles (owner_view l.fn.owner) (owner_view l.owner);
}
