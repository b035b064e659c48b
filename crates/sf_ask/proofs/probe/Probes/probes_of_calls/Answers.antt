use Rattle.sf_ask.proofs.Common.{rules, ltb, leb, IsPartitionPoint-from_clause, IsPartitionedBy-ltb, IsPartitionedBy-leb, Probe}
use Rattle.sf_ask.proofs.probe.ProbeLemmas.{found-between}
use Rattle.sf_ask.proofs.probe.Probes.probes_of_calls.Goals as goal

pub returns-clause-all : goal.returns-clause-all
returns-clause-all c =
    let probes = c.args.self.now.by_call.items in
    let is = c.as_slice-by_call.ensures.value in
    let low = c.args.low in
    let high = c.args.high in
    let starts = IsPartitionPoint-from_clause (λ (y : Probe). ltb y.low low) _ _
    c.partition_point-from.ensures.partitioned
    (rw is (IsPartitionedBy-ltb (λ (y : Probe). y.low) probes low c.requires)) (λ a r q k. search rules) in
    let ends = IsPartitionPoint-from_clause (λ (y : Probe). leb y.low high) _ _
    c.partition_point-to.ensures.partitioned
    (rw is (IsPartitionedBy-leb (λ (y : Probe). y.low) probes high c.requires)) (λ a r q k. search rules) in
    λ p there above below. rw c.min.ensures (found-between c.as_slice-by_call.result.now low high
    c.partition_point-from.result c.partition_point-to.result starts ends c.partition_point-to.ensures.bound p
    (rw is there) above below)
