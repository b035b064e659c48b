use Rattle.sf_crew.proofs.Free.{recalled_free}
use Rattle.sf_crew.proofs.workers.explore.Goals as goal

pub work_off-requires-after_bounds : goal.work_off-requires-after_bounds
work_off-requires-after_bounds g c κs within = rw c.recall.ensures (recalled_free _)
