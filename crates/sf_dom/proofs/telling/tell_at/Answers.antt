use Rattle.sf_dom.proofs.Common.{Some, word-place, known_at}
use Rattle.sf_dom.proofs.telling.Forcing.{forced-at, excluded-node}
use Rattle.sf_dom.proofs.telling.tell_at.Goals as goal

pub returns-in-Some-clause-rule : goal.returns-in-Some-clause-rule
returns-in-Some-clause-rule c = λ h.
    let k = known_at c.args.nodes.now.known c.args.at in
    forced-at c.args.excluded.now c.args.at k c.args.test c.args.number (Some c.in-Some.sense)
    ((rw c.get.ensures at c.in-Some.ensures.rule) h.known)

pub returns-then-is_excluded-clause-rule : goal.returns-then-is_excluded-clause-rule
returns-then-is_excluded-clause-rule c = λ h.
    let ns = c.args.pool.now in let at = c.args.at in
    rw c.in-Equal.is (excluded-node c.args.excluded.now at (known_at c.args.nodes.now.known at) c.args.number
    c.node_at.result c.node_at.ensures.operands
    (rw c.node_at.ensures.node (λ w e. word-place ns c.node_at.ensures.lawful at w c.requires.place e)) h
    (c.is_excluded.ensures.0 c.if-is_excluded.true))
