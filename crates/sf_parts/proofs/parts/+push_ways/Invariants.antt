use Rattle.sf_parts.proofs.parts.+push_ways.Given as goal

abbrev pub decreases-push_ways : goal.decreases-push_ways
decreases-push_ways l = l.id
