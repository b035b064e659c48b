use Rattle.sf_sym.proofs.Common.{common_steps, ◌≡◌, length, arith, ap, refl, ◌∙◌, arc_value, ArePlainNodes-push, value-node, value-older, value-pushed, folded_node}
use Rattle.sf_sym.proofs.pool.Folds.{folded_node-value, pushed-lawful}
use Rattle.sf_sym.proofs.pool.Pool.push.Goals as goal

pub returns-in-Some-clause-within : goal.returns-in-Some-clause-within
returns-in-Some-clause-within c =
    let there = rw c.deref-3.ensures at c.in-Some.ensures.found c.in-Some.at refl in
    omega (arith, ap length c.self.view_is, there.0)

pub returns-in-Some-clause-value : goal.returns-in-Some-clause-value
returns-in-Some-clause-value c = search (arith, value-node, folded_node-value)

pub returns-in-Some-clause-added : goal.returns-in-Some-clause-added
returns-in-Some-clause-added c = λ absent.
    let there = rw c.deref-3.ensures at c.in-Some.ensures.found c.in-Some.at refl in
    let folds = c.fold-node.ensures ∙ ap (λ ms. folded_node ms c.args.node) c.deref-2.ensures in
    absurd (rw (← c.self.view_is) at absent c.in-Some.at there.0 (there.1 ∙ folds))

pub invariant_of-self-2 : goal.invariant_of-self-2
invariant_of-self-2 c = grind (arith, common_steps, pushed-lawful)

pub returns-clause-value : goal.returns-clause-value
returns-clause-value c = grind (arith, common_steps, value-pushed, folded_node-value)

pub returns-clause-plain : goal.returns-clause-plain
returns-clause-plain c = λ k e plain.
    rw (c.in_ok-at.ensures.ok, c.fold-node.ensures, c.deref-2.ensures, e)
    (ArePlainNodes-push (arc_value c.self.inside.nodes) k (rw (← c.self.view_is) at plain))

pub returns-clause-lawful : goal.returns-clause-lawful
returns-clause-lawful c = grind (arith, common_steps, pushed-lawful)

pub overflow_cast-result : goal.overflow_cast-result
overflow_cast-result c =
    let there = rw c.deref-3.ensures at c.in-Some.ensures.found c.in-Some.at refl in
    let count : length c.deref.result.now ≡ length (arc_value c.self.inside.nodes) = ap length c.deref.ensures in
    omega (arith, there.0, count, c.len-count.ensures.count, c.len-count.ensures.small)

pub returns-clause-older : goal.returns-clause-older
returns-clause-older c = grind (arith, common_steps, value-older)
