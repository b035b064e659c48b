use Rattle.sf_book.proofs.Common.{◌∙◌, refl}
use Rattle.sf_book.proofs.outstanding.OutstandingLists.{is_added, added_ids, added_maps, added_view, put_back}
use Rattle.sf_book.proofs.outstanding.OutstandingPieces.add.Goals as goal

pub invariant_of-self-in-Ok : goal.invariant_of-self-in-Ok
invariant_of-self-in-Ok c =
    let p = c.args.piece.value in
    let above = rw (← c.self.view_is) at c.requires.above in
    let apart = rw (← c.self.view_is) at c.requires.apart in
    let put = rw c.of-named.ensures at c.in_ok-put_id.ensures.updates in
    let named = rw (c.in_ok-shared.ensures.ok, c.of-named.ensures) at c.in-Ok.ensures.updates in
    added_maps _ _ c.args.id p c.args.leased _ _ c.self.invariant (is_added _ _ c.args.id p c.args.leased _ _
    c.self.invariant above apart put.0 named.0 c.put_id.ensures.ordered c.put_name.ensures.ordered)

pub returns-in-Ok-clause-ok : goal.returns-in-Ok-clause-ok
returns-in-Ok-clause-ok c =
    let p = c.args.piece.value in
    let above = rw (← c.self.view_is) at c.requires.above in
    let apart = rw (← c.self.view_is) at c.requires.apart in
    let put = rw c.of-named.ensures at c.in_ok-put_id.ensures.updates in
    let named = rw (c.in_ok-shared.ensures.ok, c.of-named.ensures) at c.in-Ok.ensures.updates in
    let is = rw c.of-named.ensures at c.in_ok-put_id.ensures.inserted in
    rw (← c.self.view_is) (added_view _ _ c.args.id p c.args.leased _ _ c.self.invariant
    (is_added _ _ c.args.id p c.args.leased _ _ c.self.invariant above apart put.0 named.0 c.put_id.ensures.ordered
    c.put_name.ensures.ordered) (is ∙ added_ids _ _ c.args.id p above))

pub invariant_of-self-in-Err : goal.invariant_of-self-in-Err
invariant_of-self-in-Err c =
    let above = rw (← c.self.view_is) at c.requires.above in
    rw (
      c.in-Err.ensures.err.1,
      c.drop_id.ensures,
      c.in_ok-put_id.ensures.inserted,
      put_back _ _ c.args.id c.of-named.result above,
    ) c.self.invariant

pub returns-in-Err-clause-err : goal.returns-in-Err-clause-err
returns-in-Err-clause-err c =
    let ids = c.self.inside.by_id.entries in
    let names = c.self.inside.by_name.entries in
    let above = rw (← c.self.view_is) at c.requires.above in (
      c.in-Err.ensures.err.0,
      rw (
        ← c.self.view_is,
        c.in-Err.ensures.err.1,
        c.drop_id.ensures,
        c.in_ok-put_id.ensures.inserted,
        put_back ids names c.args.id c.of-named.result above,
      ) refl,
    )
