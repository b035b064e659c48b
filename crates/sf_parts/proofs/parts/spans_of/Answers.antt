use Rattle.sf_parts.proofs.Common.{arith}
use Rattle.sf_parts.proofs.parts.StoredLemmas.{spans-more}
use Rattle.sf_parts.proofs.parts.spans_of.Goals as goal

pub loop-run-preserved : goal.loop-run-preserved
loop-run-preserved c =
    spans-more c.args.store.now.trees c.args.runs.now c.loop-run.run-index _ c.args.behind c.args.without
    c.is_meant-meant.result c.loop-run.spans.items c.push_span.new.spans.items _ c.requires.lawful.canonical
    (omega arith) c.requires.kept c.requires.within c.is_meant-meant.ensures c.in_ok-push_span.ensures
    c.loop-run.invariant
