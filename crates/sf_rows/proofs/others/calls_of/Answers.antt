use Rattle.sf_rows.proofs.Common.{Leaf, ℕ, ◌<◌, ◌^◌, List, ◌∙◌, ap, arith, map, subst, sym, All, CallData}
use Rattle.sf_rows.proofs.others.OtherLemmas.{calls-step, chosen-diagram, diagram-kept, tree-diagram}
use Rattle.sf_rows.proofs.others.calls_of.Goals as goal

pub returns-clause-values : goal.returns-clause-values
returns-clause-values c =
    let numbers = c.deref.result.now in
    let given = c.arch.result in
    let kept = c.in_ok-none.ensures.keeps.trees in
    chosen-diagram
    (diagram-kept kept (diagram-kept c.in_ok-of_calls.ensures.keeps.trees c.in_ok-of_arch.ensures.values))
    (diagram-kept kept c.in_ok-of_calls.ensures.values)
    (tree-diagram c.leaf.new.self.trees _ (Leaf 0) c.in_ok-none.ensures.within c.in_ok-none.ensures.tree)
    c.in_ok-id.ensures.within c.in_ok-id.ensures.chosen
    (λ b. calls-step given c.args.names.now.arch c.args.names.now.calls numbers b (omega arith) c.arch.ensures
    (c.deref.ensures.value ∙ c.in_ok-numbers.ensures.numbers ∙ ap (map (λ (x : CallData). x.number)) c.calls.ensures)
    (subst (λ (ns : List ℕ). All (λ (n : ℕ). n < 2 ^ 32) ns) (sym c.deref.ensures.value) c.in_ok-numbers.ensures.small))
