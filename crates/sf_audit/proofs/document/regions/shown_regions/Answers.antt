use Rattle.sf_audit.proofs.document.regions.RegionDocuments.{one_more_region}
use Rattle.sf_audit.proofs.document.regions.shown_regions.Goals as goal

pub loop-i-preserved : goal.loop-i-preserved
loop-i-preserved c = one_more_region _ _ _ _ c.args.settled.now.regions c.loop-i.i c.region.result.now
    c.region.ensures.value c.in_ok-push.ensures.items c.in_ok-document.ensures c.loop-i.invariant
