use Rattle.sf_piece.proofs.Common.{common_steps, arith}
use Rattle.sf_piece.proofs.name.Spelled.{by_runs}
use Rattle.sf_piece.proofs.name.Name.order.Goals as goal

pub returns : goal.returns
returns c = grind (arith, common_steps, by_runs)
