use Rattle.sf_blocks.proofs.Common.{common_steps, arith}
use Rattle.sf_blocks.proofs.shared.OrderLemmas.{by_lengths}
use Rattle.sf_blocks.proofs.shared.order_of.Goals as goal

pub returns : goal.returns
returns g c = grind (arith, common_steps, by_lengths)
