use Rattle.sf_diagram.proofs.Common.{common_steps, ℕ, suc, true, false, Err, sym, ap, arith, err_from_is_err_and, Tree, Leaf, IsJoined, tree_at, KeepsTrees, keeps_more, wanted, HasValues}
use Rattle.sf_diagram.proofs.task.TaskLemmas.{wanted-keeps, made-ordered, joined-values}
use Rattle.sf_diagram.proofs.SpentLemmas.{side-spent, tree-spent, fork-spent}
use Rattle.sf_diagram.proofs.making.+make.Goals as goal
use Rattle.sf_diagram.proofs.making.+make.Goals.{In_ok-high}

-- ---- the trees of both sides, in the store that has both

low-made : (t : ℕ) (c : In_ok-high t) → HasValues (tree_at c.make-2.new.store.trees c.in_ok-low.low)
    (wanted c.args.store.now.trees c.in-Divided.lower)
low-made t c =
    rw (c.in_ok-high.ensures.keeps.trees.same c.in_ok-low.low c.in_ok-low.ensures.within) c.in_ok-low.ensures.made

high-made : (t : ℕ) (c : In_ok-high t) → HasValues (tree_at c.make-2.new.store.trees c.in_ok-high.high)
    (wanted c.args.store.now.trees c.in-Divided.higher)
high-made t c = grind (arith, common_steps, wanted-keeps)

joined-made : (t : ℕ) (c : In_ok-high t) (u : Tree) → IsJoined c.in-Divided.variable
    (tree_at c.make-2.new.store.trees c.in_ok-low.low) (tree_at c.make-2.new.store.trees c.in_ok-high.high) u
    → HasValues u (wanted c.args.store.now.trees c.args.task)
joined-made t c u j =
    joined-values c.in-Divided.variable _ _ _ _ _ u c.in-Divided.ensures.step.2 (low-made t c) (high-made t c) j

-- ---- what the calls ask for

pub fork-requires-clause-below_lower : goal.fork-requires-clause-below_lower
fork-requires-clause-below_lower t c = grind (arith, common_steps, wanted, made-ordered, In_ok-high, low-made)

pub fork-requires-clause-below_higher : goal.fork-requires-clause-below_higher
fork-requires-clause-below_higher t c =
    made-ordered c.make-2.new.store c.in_ok-high.high (suc c.in-Divided.variable)
    (wanted c.args.store.now.trees c.in-Divided.higher) c.in_ok-high.ensures.lawful c.in_ok-high.ensures.within
    (high-made t (goal.at.fork-requires-clause-below_higher t c).In_ok-high) c.in-Divided.ensures.step.2.higher_from

pub remember-requires-clause-made : goal.remember-requires-clause-made
remember-requires-clause-made t c =
    let first = c.args.store.now in
    let last = c.fork.new.self in
    let k : KeepsTrees first.trees last.trees = (keeps_more first c.make-2.new.store last
    (keeps_more first c.make.new.store c.make-2.new.store c.in_ok-low.ensures.keeps c.in_ok-high.ensures.keeps)
    c.in_ok-joined.ensures.keeps).trees in
    rw (wanted-keeps first.trees last.trees c.args.task k c.requires) (joined-made t
    (goal.at.remember-requires-clause-made t c).In_ok-high (tree_at last.trees c.in_ok-joined.joined)
    c.in_ok-joined.ensures.tree)

-- ---- what is returned

pub returns-in_err-leaf-in-Constant-clause-spent : goal.returns-in_err-leaf-in-Constant-clause-spent
returns-in_err-leaf-in-Constant-clause-spent t c =
    let p = err_from_is_err_and c.from_residual.result c.from_residual.ensures.1 in
    rw (p.1, p.2, c.in_err-leaf-in-Constant.ensures.err) (λ e.
    tree-spent c.args.store.now (Leaf c.in-Constant.number) (wanted c.args.store.now.trees c.args.task)
    c.in-Constant.ensures.lawful tt tt
    (record { values = λ x. sym (c.in-Constant.ensures.step x) })
    (c.in_err-leaf-in-Constant.ensures.spent.0 (ap Err e)))

pub returns-in_err-low-clause-spent : goal.returns-in_err-low-clause-spent
returns-in_err-low-clause-spent t c =
    let p = err_from_is_err_and c.from_residual-in_err-low.result c.from_residual-in_err-low.ensures.1 in
    rw (p.1, p.2) (λ e. side-spent c.make.new.store c.in-Divided.variable false _ _ _ c.in_err-low.ensures.lawful
    c.in-Divided.ensures.step.2 (c.in_err-low.ensures.spent e))

pub returns-in_err-high-clause-spent : goal.returns-in_err-high-clause-spent
returns-in_err-high-clause-spent t c =
    let p = err_from_is_err_and c.from_residual-in_err-high.result c.from_residual-in_err-high.ensures.1 in
    rw (p.1, p.2) (λ e. side-spent c.make-2.new.store c.in-Divided.variable true _ _ _ c.in_err-high.ensures.lawful
    c.in-Divided.ensures.step.2
    (rw (← wanted-keeps c.args.store.now.trees c.make.new.store.trees c.in-Divided.higher
    c.in_ok-low.ensures.keeps.trees c.in-Divided.ensures.step.1.0) (c.in_err-high.ensures.spent e)))

pub returns-in_err-joined-clause-spent : goal.returns-in_err-joined-clause-spent
returns-in_err-joined-clause-spent t c =
    let p = err_from_is_err_and c.from_residual-in_err-joined.result c.from_residual-in_err-joined.ensures.1 in
    let sides = (goal.at.returns-in_err-joined-clause-spent t c).In_ok-high in
    rw (p.1, p.2, c.in_err-joined.ensures.err) (λ e.
    let room = c.in_err-joined.ensures.spent.0 (ap Err e) in
    fork-spent c.make-2.new.store c.in-Divided.variable c.in_ok-low.low c.in_ok-high.high _ _ _
    c.in_ok-high.ensures.lawful
    (omega (arith, c.in_ok-low.ensures.within, c.in_ok-high.ensures.keeps.trees.longer))
    c.in_ok-high.ensures.within room.0 c.in-Divided.ensures.step.2 (low-made t sides) (high-made t sides) room.1)
