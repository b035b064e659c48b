use Rattle.sf_ask.proofs.Common.{length}
use Rattle.sf_ask.proofs.probe.ProbeLemmas.{probes-ordered}
use Rattle.sf_ask.proofs.probe.Probes.of.Goals as goal

pub returns-clause-ok : goal.returns-clause-ok
returns-clause-ok c = record {
  each = probes-ordered c.args.questions.now (length c.args.questions.now) c.in_ok-by_call.by_call.items
      c.put_in_order.new.probes.items c.in_ok-by_call.others.items c.put_in_order.ensures.permutation
      c.in_ok-by_call.ensures.each;
  ascending = c.put_in_order.ensures.ascending;
}
