use Rattle.sf_book.proofs.Common.{common_steps, arith, ◌≡◌, sym, ◌∙◌, true, piece_at}
use Rattle.sf_book.proofs.MapLemmas.{leased_maps, some_inj}
use Rattle.sf_book.proofs.outstanding.OutstandingLeases.{first_piece, leases_entry, all_leased, none_some}
use Rattle.sf_book.proofs.outstanding.OutstandingPieces.lease.Goals as goal

pub returns-in_default-clause-ok : goal.returns-in_default-clause-ok
returns-in_default-clause-ok c = grind (arith, common_steps, all_leased)

pub unreachable-requires : goal.unreachable-requires
unreachable-requires c =
    let f = first_piece _ _ c.in-Some.id c.self.invariant c.in-Some.ensures in
    none_some f.piece (piece_at c.self.inside.by_id.entries c.in-Some.id) (sym c.in_default-get.ensures.value) f.there

pub invariant_of-self : goal.invariant_of-self
invariant_of-self c =
    let f = first_piece _ _ c.in-Some.id c.self.invariant c.in-Some.ensures in
    let same : f.piece ≡ c.in-Some-get.named.now = some_inj _ _ (sym f.there ∙ sym c.in-Some-get.ensures.value) in
    let e = rw (← same, f.marked) at c.set_leased.ensures in
    rw e (leased_maps _ _ c.in-Some.id f.piece f.state true c.self.invariant f.there f.marked)

pub returns-clause-ok : goal.returns-clause-ok
returns-clause-ok c =
    let f = first_piece _ _ c.in-Some.id c.self.invariant c.in-Some.ensures in
    let same : f.piece ≡ c.in-Some-get.named.now = some_inj _ _ (sym f.there ∙ sym c.in-Some-get.ensures.value) in
    let e = rw (← same, f.marked) at c.set_leased.ensures in
    rw (← c.self.view_is, e, c.in_ok-piece.ensures)
    (leases_entry _ _ c.in-Some.id _ c.self.invariant f (same ∙ sym c.piece.ensures))
