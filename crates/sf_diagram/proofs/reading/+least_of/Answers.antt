use Rattle.sf_diagram.proofs.Common.{ℕ, suc, Fork, IsOrderedTree, tree_at}
use Rattle.sf_diagram.proofs.reading.LeastLemmas.{least-higher}
use Rattle.sf_diagram.proofs.reading.+least_of.Goals as goal
use Rattle.sf_diagram.proofs.reading.+least_of.Goals.{In-Choice}

-- the node's tree is ordered
ordered : (t : ℕ) (c : In-Choice t) → IsOrderedTree (Fork c.in-Choice.variable
    (tree_at c.args.store.now.trees c.in-Choice.lower) (tree_at c.args.store.now.trees c.in-Choice.higher))
ordered t c =
    rw c.in-Choice.ensures.tree at (c.in-Choice.ensures.lawful.canonical.ordered c.args.id c.requires.within)

pub returns-clause-least : goal.returns-clause-least
returns-clause-least t c =
    let v = c.in-Choice.variable in
    let o = ordered t (goal.at.returns-clause-least t c).In-Choice in
    rw (c.in_ok-push.ensures.items, c.in-Choice.ensures.tree, c.is_zero.ensures.zero c.if-not-is_zero.false)
    (least-higher v _ c.in_ok-variables.variables.items o.2
    (λ w e. c.in_ok-variables.ensures.above (suc v) w o.2 e) c.in_ok-variables.ensures.least)
