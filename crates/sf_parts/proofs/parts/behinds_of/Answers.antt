use Rattle.sf_parts.proofs.Common.{arith}
use Rattle.sf_parts.proofs.parts.StoredLemmas.{known-more}
use Rattle.sf_parts.proofs.parts.behinds_of.Goals as goal

pub loop-run-preserved : goal.loop-run-preserved
loop-run-preserved c =
    let h = known-more c.args.store.now.trees c.args.runs.now c.loop-run.run-index _ c.args.rest c.loop-run.known.items
    c.push_known.new.known.items _ c.requires.lawful.canonical (omega arith) c.requires.kept c.requires.within
    c.loop-run.invariant.kept c.in_ok-push_known.ensures c.loop-run.invariant.so_far in
    record { kept = h.0; so_far = h.1 }
