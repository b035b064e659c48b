use Rattle.sf_audit.proofs.report.text.RegionLines.{one_more_region}
use Rattle.sf_audit.proofs.report.text.push_regions.Goals as goal

pub loop-i-preserved : goal.loop-i-preserved
loop-i-preserved c = one_more_region _ _ _ c.args.settled.now.regions c.loop-i.i c.region.result.now
    c.region.ensures.value c.in_ok-push_region.ensures c.loop-i.invariant
