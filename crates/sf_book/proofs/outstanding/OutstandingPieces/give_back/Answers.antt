use Rattle.sf_book.proofs.Common.{arith, ◌≡◌, false, sym, Some, piece_at}
use Rattle.sf_book.proofs.MapLemmas.{leased_maps, marked_view, entry_at_is}
use Rattle.sf_book.proofs.outstanding.OutstandingLists.{same_none}
use Rattle.sf_book.proofs.outstanding.OutstandingPieces.give_back.Goals as goal

pub invariant_of-self : goal.invariant_of-self
invariant_of-self c =
    let at : piece_at c.self.inside.by_id.entries c.args.id ≡ Some c.in-Some.named.now = sym c.in-Some.ensures.value in
    let n = c.self.invariant.named c.args.id c.in-Some.named.now at in
    let e = rw n.1 at c.set_leased.ensures in
    rw e (leased_maps _ _ c.args.id c.in-Some.named.now n.0 false c.self.invariant at n.1)

pub returns-in-Some : goal.returns-in-Some
returns-in-Some c = search (arith, marked_view)

pub returns-in_default : goal.returns-in_default
returns-in_default c = search (arith, same_none, entry_at_is)
