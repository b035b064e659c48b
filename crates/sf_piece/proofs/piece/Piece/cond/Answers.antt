use Rattle.sf_piece.proofs.Common.{◌∙◌, Some, sym, ap, slice_get-get_or, All-from_recursion, IsCondBelow, length}
use Rattle.sf_piece.proofs.Plain.{all_at}
use Rattle.sf_piece.proofs.piece.Piece.cond.Goals as goal

pub returns-clause-value : goal.returns-clause-value
returns-clause-value c =
    let inside = rw (← c.self.view_is, ← c.run.view_is) at c.requires in
    rw (← c.self.view_is, ← c.run.view_is) (slice_get-get_or c.run.inside.conditions c.args.i c.get.result inside
    ∙ ap Some (sym (c.get.ensures c.get.result)))

pub returns-clause-below : goal.returns-clause-below
returns-clause-below c =
    let inside = rw (← c.self.view_is, ← c.run.view_is) at c.requires in
    let lawful = rw (← c.run.view_is) at c.self.invariant in
    rw (← c.self.view_is, ← c.run.view_is) (all_at (IsCondBelow (length c.run.inside.pool)) c.run.inside.conditions
    c.args.i c.get.result (All-from_recursion (IsCondBelow (length c.run.inside.pool)) c.run.inside.conditions
    lawful.lawful.run.bounded) (slice_get-get_or c.run.inside.conditions c.args.i c.get.result inside
    ∙ ap Some (sym (c.get.ensures c.get.result))))
