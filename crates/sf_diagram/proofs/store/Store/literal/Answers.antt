use Rattle.sf_diagram.proofs.Common.{Err, ap, inl, inr, err_from_is_err_and, Leaf}
use Rattle.sf_diagram.proofs.SpentLemmas.{no-room-above}
use Rattle.sf_diagram.proofs.store.Store.literal.Goals as goal

pub returns-in_err-zero-clause-spent : goal.returns-in_err-zero-clause-spent
returns-in_err-zero-clause-spent c =
    let p = err_from_is_err_and c.from_residual.result c.from_residual.ensures.1 in
    rw (p.1, p.2) (λ e. no-room-above _ c.args.variable (Leaf 0) (Leaf 1) c.in_err-zero.ensures.lawful
    (inl (rw c.in_err-zero.ensures.err (c.in_err-zero.ensures.spent.0 (ap Err e)))))

pub returns-in_err-one-clause-spent : goal.returns-in_err-one-clause-spent
returns-in_err-one-clause-spent c =
    let p = err_from_is_err_and c.from_residual-in_err-one.result c.from_residual-in_err-one.ensures.1 in
    rw (p.1, p.2) (λ e. no-room-above _ c.args.variable (Leaf 0) (Leaf 1) c.in_err-one.ensures.lawful
    (inr (rw c.in_err-one.ensures.err (c.in_err-one.ensures.spent.0 (ap Err e)))))
