use Rattle.sf_rows.proofs.Common.{Leaf, Fork, ◌+◌, ◌-◌, ◌*◌, ◌∙◌, ap, arith, refl, sym}
use Rattle.sf_rows.proofs.others.OtherLemmas.{chosen-diagram, diagram-kept, diagram-same, flag, one-of-all, one-of-none, one-of-step, tree-diagram}
use Rattle.sf_rows.proofs.others.+one_of.Goals as goal

pub returns-then-is_empty-clause-values : goal.returns-then-is_empty-clause-values
returns-then-is_empty-clause-values t c =
    diagram-same _ _ _ _ (tree-diagram _ _ (Leaf 0) c.in_ok-none.ensures.within c.in_ok-none.ensures.tree)
    (λ b. sym (ap flag
    (one-of-none c.args.word c.args.bits b c.args.numbers.now (sym c.is_empty.ensures ∙ c.if-is_empty.true))))

pub returns-then-bits-eq0-clause-values : goal.returns-then-bits-eq0-clause-values
returns-then-bits-eq0-clause-values t c =
    diagram-same _ _ _ _ (tree-diagram _ _ (Leaf 1) c.in_ok-one.ensures.within c.in_ok-one.ensures.tree)
    (λ b. sym (ap flag (one-of-all c.args.word c.args.bits b c.args.numbers.now c.if-bits-eq0.true
    (sym c.is_empty.ensures ∙ c.if-is_empty.false))))

pub returns-clause-values : goal.returns-clause-values
returns-clause-values t c =
    let n = c.args.bits - 1 in
    let v = 32 * c.args.word + (31 - n) in
    let set = c.deref.result.now in
    let unset = c.deref-2.result.now in
    let kept = c.in_ok-variable.ensures.keeps.trees in
    chosen-diagram (tree-diagram c.literal.new.self.trees _ (Fork v (Leaf 0) (Leaf 1)) c.in_ok-variable.ensures.within
    c.in_ok-variable.ensures.tree)
    (diagram-kept kept (diagram-kept c.in_ok-lower.ensures.keeps.trees c.in_ok-higher.ensures.values))
    (diagram-kept kept c.in_ok-lower.ensures.values) c.in_ok-id.ensures.within c.in_ok-id.ensures.chosen
    (λ b. one-of-step c.args.word n c.args.bits v b c.args.numbers.now set unset
    (c.deref.ensures.value ∙ c.in_ok-set.ensures.set) (c.deref-2.ensures.value ∙ c.in_ok-set.ensures.unset) refl
    (omega arith))
