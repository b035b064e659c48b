use Rattle.sf_check.proofs.Common.{ltb, rules, ltb-true, ltb-false, IsPartitionPoint-from_clause, IsPartitionedBy-ltb}
use Rattle.sf_check.proofs.equals.count_below.Goals as goal

pub returns : goal.returns
returns c =
    let keys = c.args.keys.now in
    let key = c.args.key in
    let point = IsPartitionPoint-from_clause (λ x. ltb x key) _ _ c.partition_point.ensures.partitioned
    (IsPartitionedBy-ltb (λ x. x) keys key c.requires) (λ a r q k. search rules) in (
      λ m d from before. ltb-true _ key (point.0 m d from before),
      λ m d from inside. ltb-false _ key (point.1 m d from inside),
    )
