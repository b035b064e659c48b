use Rattle.sf_crew.proofs.Common.{◌∙◌}
use Rattle.sf_crew.proofs.Free.{leased_of}
use Rattle.sf_crew.proofs.workers.hands.SharedBook.lease.Goals as goal

pub of-requires-after_bounds : goal.of-requires-after_bounds
of-requires-after_bounds g c κs within =
    leased_of _ _ c.in-Some.lease c.counts-counts.ensures.lawful (rw c.in-Some.is at c.in_ok-lease.ensures.ok)
    ∙ c.self.invariant.0

pub returns-in_default-clause-ok : goal.returns-in_default-clause-ok
returns-in_default-clause-ok g c = rw (← c.self.view_is) (rw c.in_default.is at c.in_ok-lease.ensures.ok)
