use Rattle.sf_crew.proofs.Histories.{opened}
use Rattle.sf_crew.proofs.benches.open_bench.Goals as goal

pub fifo_as-requires : goal.fifo_as-requires
fifo_as-requires g c = opened
