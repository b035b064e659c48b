use Rattle.sf_diagram.proofs.Common.{◌+◌, ◌<◌, inl, inr, arith, cases_lt, tree_at, merged_of, top_variable}
use Rattle.sf_diagram.proofs.task.TaskLemmas.{rule-divided}
use Rattle.sf_diagram.proofs.making.merge_by.Goals as goal

pub returns : goal.returns
returns c =
    let ts = c.args.store.now.trees in
    let a = c.split-first_lower.result in
    let b = c.split-second_lower.result in
    let all = c.args.first + c.args.second in
    let less : (a.0 + b.0 < all) × (a.1 + b.1 < all)
    = elim (cases_lt (top_variable (tree_at ts c.args.first)) (top_variable (tree_at ts c.args.second))) [
      | inl l ↦ (omega arith, omega arith)
      | inr l ↦ (omega arith, omega arith)
    ] in (
      ((omega arith, omega arith), less.0),
      ((omega arith, omega arith), less.1),
      rule-divided (λ x y z. merged_of c.args.operation x y) _ _ _ _ _ _ _ _ _ _ c.split-first_lower.ensures.split
          c.split-second_lower.ensures.split c.split-second_lower.ensures.split,
    )
