use Rattle.sf_book.proofs.Common.{region_plain}
use Rattle.sf_book.proofs.settled.Settled.region.Goals as goal

pub returns-clause-plain : goal.returns-clause-plain
returns-clause-plain c = rw (← c.self.view_is)
    (λ h. region_plain _ c.args.i _ (rw (← c.self.view_is) at c.requires) c.index.ensures
    (c.self.invariant.plain.book h))
