use Rattle.sf_diagram.proofs.Common.{◌≡◌, ◌+◌, ◌<◌, ap, inl, inr, arith, cases_eq, tree_at, chosen_of, top_variable}
use Rattle.sf_diagram.proofs.task.TaskLemmas.{rule-divided}
use Rattle.sf_diagram.proofs.making.choice_step.Goals as goal

pub returns-clause-step : goal.returns-clause-step
returns-clause-step c =
    let ts = c.args.store.now.trees in
    let a = c.split-test_lower.result in
    let b = c.split-taken_lower.result in
    let o = c.split-other_lower.result in
    let all = c.args.test + c.args.taken + c.args.other in
    let first : top_variable (tree_at ts c.args.test) ≡ c.in-Choice.variable
    = ap top_variable c.in-Choice.ensures.tree in
    let less : (a.0 + b.0 + o.0 < all) × (a.1 + b.1 + o.1 < all)
    = elim (cases_eq c.lesser-variable.result (top_variable (tree_at ts c.args.test))) [
      | inl e ↦ (omega arith, omega arith)
      | inr n ↦ elim (cases_eq c.lesser-variable.result (top_variable (tree_at ts c.args.taken))) [
        | inl e ↦ (omega arith, omega arith)
        | inr m ↦ (omega arith, omega arith)
      ]
    ] in (
      ((omega arith, omega arith, omega arith), less.0),
      ((omega arith, omega arith, omega arith), less.1),
      rule-divided chosen_of _ _ _ _ _ _ _ _ _ _ c.split-test_lower.ensures.split c.split-taken_lower.ensures.split
          c.split-other_lower.ensures.split,
    )
