use Rattle.sf_policy.proofs.Common.{◌≡◌, map, drop, view, table_or_empty, group_of, each_of}
use Rattle.sf_policy.proofs.policy.words.TreeLemmas.{with_front}
use Rattle.sf_policy.proofs.policy.groups.groups_of.Given as goal

abbrev pub invariant-loop-value : goal.invariant-loop-value
invariant-loop-value l =
    each_of group_of (map (λ v. table_or_empty (view v)) l.items)
    ≡ with_front l.groups.items
    (each_of group_of (map (λ v. table_or_empty (view v)) (drop l.value-index l.items)))
