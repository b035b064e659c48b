use Rattle.sf_relations.proofs.Common.{common_steps, arith, bits_with, tree_at}
use Rattle.sf_relations.proofs.findings.FindingLemmas.{example-back, unchanged, least-change}
use Rattle.sf_relations.proofs.examples.least_example.Goals as goal

pub returns-in_default-clause-found : goal.returns-in_default-clause-found
returns-in_default-clause-found c = grind (arith, common_steps, unchanged)

pub returns-clause-found : goal.returns-clause-found
returns-clause-found c = λ old new was is.
    let ts = c.args.store.now.trees in
    let us = c.merge.new.store.trees in
    let bits = bits_with c.in-Some.variables.items in
    let least = rw c.in-Some.is at c.in_ok-variables.ensures.least in
    least-change ts c.args.relation c.args.before c.args.after (tree_at us c.in_ok-related.related) old new bits
    c.example_at.result (rw c.operation_of.ensures at c.in_ok-related.ensures.merged) was is least
    (example-back ts us c.args.before c.args.after bits c.example_at.result c.in_ok-related.ensures.keeps.trees
    c.requires.before c.requires.after (rw c.deref.ensures.value at c.example_at.ensures))
