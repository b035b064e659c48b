use Rattle.sf_parts.proofs.runs.+push_runs.Given as goal

abbrev pub decreases-push_runs : goal.decreases-push_runs
decreases-push_runs l = l.block.bits
