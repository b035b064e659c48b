use Rattle.sf_rows.proofs.Common.{refl, Bits, value, tree_at, word_number, is_named_call}
use Rattle.sf_rows.proofs.others.OtherLemmas.{chosen-diagram, diagram-kept, flag-chosen, tree-diagram}
use Rattle.sf_rows.proofs.others.without_named.Goals as goal

pub returns-clause-values : goal.returns-clause-values
returns-clause-values c =
    let s0 = c.args.store.now in
    let kept = c.in_ok-leaf.ensures.keeps.trees in
    let named = λ (b : Bits). is_named_call c.args.sets.now (word_number 18 b) (word_number 19 b) in
    chosen-diagram (diagram-kept kept c.in_ok-named.ensures.values)
    (tree-diagram c.leaf.new.self.trees _ _ c.in_ok-leaf.ensures.within c.in_ok-leaf.ensures.tree)
    (diagram-kept kept (diagram-kept c.in_ok-named.ensures.keeps.trees
    (tree-diagram s0.trees c.args.id _ c.requires refl)))
    c.in_ok-rest.ensures.within c.in_ok-rest.ensures.chosen
    (λ b. flag-chosen (named b) c.args.number (value (tree_at s0.trees c.args.id) b))
