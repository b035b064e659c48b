use Rattle.sf_book.proofs.MapLemmas.{recalled_maps, recalled_view}
use Rattle.sf_book.proofs.outstanding.OutstandingPieces.recall.Goals as goal

pub invariant_of-self : goal.invariant_of-self
invariant_of-self c = rw c.clear_leased.ensures (recalled_maps _ _ c.self.invariant)

pub returns : goal.returns
returns c = rw (← c.self.view_is, c.clear_leased.ensures) (recalled_view _ _ c.self.invariant)
