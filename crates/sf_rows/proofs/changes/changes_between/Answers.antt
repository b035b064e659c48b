use Rattle.sf_rows.proofs.Common.{Leaf, Bits, value, tree_at, merged_of, pair_of, operation_of}
use Rattle.sf_rows.proofs.others.OtherLemmas.{chosen-diagram, chosen-some, diagram-kept, tree-diagram, valued-diagram}
use Rattle.sf_rows.proofs.changes.changes_between.Goals as goal

pub returns-in-None-clause-values : goal.returns-in-None-clause-values
returns-in-None-clause-values c =
    rw c.in-None.is (valued-diagram _ _ c.in_ok-both.ensures.within c.in_ok-both.ensures.merged)

pub returns-in_ok-id-in-Some-clause-values : goal.returns-in_ok-id-in-Some-clause-values
returns-in_ok-id-in-Some-clause-values c =
    let s0 = c.args.store.now in
    let before = λ (b : Bits). value (tree_at s0.trees c.args.before) b in
    let after = λ (b : Bits). value (tree_at s0.trees c.args.after) b in
    let both = c.in_ok-both.ensures in
    let related = c.in_ok-related-in-Some.ensures in
    let none = c.in_ok-none-in-Some.ensures in
    chosen-diagram
    (diagram-kept none.keeps.trees (valued-diagram c.merge-in-Some.new.store.trees _ related.within related.merged))
    (diagram-kept none.keeps.trees (diagram-kept related.keeps.trees
    (valued-diagram c.merge.new.store.trees _ both.within both.merged)))
    (tree-diagram c.leaf.new.self.trees _ (Leaf 0) none.within none.tree) c.in_ok-id-in-Some.ensures.within
    c.in_ok-id-in-Some.ensures.chosen (λ b. rw (
      c.in-Some.is,
      both.keeps.trees.same c.args.before c.requires.before,
      both.keeps.trees.same c.args.after c.requires.after,
      c.operation_of.ensures,
    )
    (chosen-some (merged_of (operation_of c.in-Some.relation) (before b) (after b)) (pair_of (before b) (after b))))
