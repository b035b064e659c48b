use Rattle.sf_dom.proofs.Common.{arith, IsClosed, IsClosedAt}
use Rattle.sf_dom.proofs.Passes.{reduction-as}
use Rattle.sf_dom.proofs.propagation.reduce_at.Goals as goal

pub returns-else-place-lt-WORDS : goal.returns-else-place-lt-WORDS
returns-else-place-lt-WORDS c =
    let i = c.args.place in let ex = c.args.excluded.now in let past = c.if-place-lt-WORDS.false in
    reduction-as IsClosed (IsClosedAt ex i) (λ k h. record { known = h; tight = λ b. absurd (omega (arith, past)) })
    (λ k h. h.known) c.args.known c.reduce_known.result c.reduce_known.ensures
