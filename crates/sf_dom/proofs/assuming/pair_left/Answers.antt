use Rattle.sf_dom.proofs.Common.{refl, set, Some, None}
use Rattle.sf_dom.proofs.ConditionSteps.{known-other}
use Rattle.sf_dom.proofs.assuming.pair_left.Goals as goal

pub returns : goal.returns
returns c =
    let pair = rw (c.get.ensures, c.get-2.ensures) at c.assume_test-pair.ensures in
    let own = known-other c.args.nodes.now.known c.args.cond.now c.in_ok-node.node c.known_of_other-own.result
    c.requires.0 c.known_of_other-own.ensures.apart c.known_of_other-own.ensures.one in
    let both = rw (pair, own) at c.meet-both.ensures in
    record { node = rw pair at c.in_ok-node.ensures; other = rw both at c.in_ok-other.ensures }

pub returns-in_err-node : goal.returns-in_err-node
returns-in_err-node c =
    let pair = rw (c.get.ensures, c.get-2.ensures) at c.assume_test-pair.ensures in
    let none = rw pair at c.in_err-node.ensures in
    rw c.from_residual.ensures (λ ns. (None, (None, none, refl), refl))

pub returns-in_err-other : goal.returns-in_err-other
returns-in_err-other c =
    let ks = c.args.nodes.now.known in let v = c.args.cond.now.node.0 in let node = c.in_ok-node.node in
    let pair = rw (c.get.ensures, c.get-2.ensures) at c.assume_test-pair.ensures in
    let own = known-other ks c.args.cond.now node c.known_of_other-own.result c.requires.0
    c.known_of_other-own.ensures.apart c.known_of_other-own.ensures.one in
    let both = rw (pair, own) at c.meet-both.ensures in
    let none = rw both at c.in_err-other.ensures in
    rw c.from_residual-in_err-other.ensures (λ ns. (
      Some (set ks v node),
      (Some node, rw pair at c.in_ok-node.ensures, refl),
      (None, (None, none, refl), refl),
    ))
