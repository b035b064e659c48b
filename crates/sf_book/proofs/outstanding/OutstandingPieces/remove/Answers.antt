use Rattle.sf_book.proofs.Common.{common_steps, arith}
use Rattle.sf_book.proofs.MapLemmas.{entry_at_is}
use Rattle.sf_book.proofs.outstanding.OutstandingLists.{taken_maps, taken_view, without_none}
use Rattle.sf_book.proofs.outstanding.OutstandingPieces.remove.Goals as goal

pub invariant_of-self : goal.invariant_of-self
invariant_of-self c =
    taken_maps c.self.inside.by_id.entries c.self.inside.by_name.entries c.args.id c.in-Some.named _ _
    c.self.invariant (search arith)

pub returns-in-Some : goal.returns-in-Some
returns-in-Some c =
    rw (← c.self.view_is) (taken_view c.self.inside.by_id.entries c.self.inside.by_name.entries c.args.id
    c.in-Some.named _ _ c.self.invariant (search arith) c.remove.ensures.entries)

pub returns-in_default : goal.returns-in_default
returns-in_default c = grind (arith, common_steps, entry_at_is, without_none)
