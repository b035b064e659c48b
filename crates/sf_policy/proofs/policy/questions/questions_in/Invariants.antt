use Rattle.sf_policy.proofs.Common.{◌≡◌, ◌+◌, drop, map, view, table_or_empty, questions_from}
use Rattle.sf_policy.proofs.policy.questions.EntryLemmas.{with_questions}
use Rattle.sf_policy.proofs.policy.questions.questions_in.Given as goal

abbrev pub invariant-loop-i : goal.invariant-loop-i
invariant-loop-i l =
    questions_from l.version 1 (map (λ v. table_or_empty (view v)) l.items)
    ≡ with_questions l.questions.items (questions_from l.version (l.i + 1)
    (map (λ v. table_or_empty (view v)) (drop l.i l.items)))
