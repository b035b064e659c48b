use Rattle.sf_diagram.proofs.Common.{common_steps, ◌++◌, ◌∷◌, [], length, arith, length_push, get_or_push, IsOrderedTree, IsReducedTree, OperandsBelow, tree_of, trees_of, IsSound}
use Rattle.sf_diagram.proofs.store.NodeLemmas.{trees_of-push, keeps_push, sound-push, lawful-store}
use Rattle.sf_diagram.proofs.store.Store.intern.Goals as goal
use Rattle.sf_diagram.proofs.store.Store.intern.Goals.{In_ok-add}

-- ---- it is added

sound : (c : In_ok-add) → IsSound (c.self.inside.nodes ++ c.args.node ∷ []) c.self.inside.most c.self.inside.cache.items
sound c =
    let ns = c.self.inside.nodes in
    let n = c.args.node in
    let operands : OperandsBelow (length (trees_of ns)) n = rw (← c.self.view_is) at c.requires.operands in
    let ordered : IsOrderedTree (tree_of (trees_of ns) n) = rw (← c.self.view_is) at c.requires.ordered in
    let reduced : IsReducedTree (tree_of (trees_of ns) n) = rw (← c.self.view_is) at c.requires.reduced in
    sound-push ns n c.self.inside.most c.self.inside.cache.items c.self.invariant operands ordered reduced
    c.in_default.ensures.absent (omega (arith, c.len-at.ensures, c.if-at-self.false))

pub invariant_of-self-2 : goal.invariant_of-self-2
invariant_of-self-2 c = rw c.in_ok-add.ensures.ok (sound (goal.at.invariant_of-self-2 c).In_ok-add)

pub returns-clause-within : goal.returns-clause-within
returns-clause-within c = grind (arith, common_steps, length_push, tree_of, trees_of, trees_of-push)

pub returns-clause-tree : goal.returns-clause-tree
returns-clause-tree c = grind (arith, common_steps, get_or_push, trees_of-push)

pub returns-clause-keeps : goal.returns-clause-keeps
returns-clause-keeps c = grind (arith, common_steps, trees_of-push, keeps_push)

pub returns-clause-lawful : goal.returns-clause-lawful
returns-clause-lawful c =
    rw c.in_ok-add.ensures.ok (lawful-store _ _ _ (sound (goal.at.returns-clause-lawful c).In_ok-add))
