use Rattle.sf_piece.proofs.Common.{arith, common_steps}
use Rattle.sf_piece.proofs.name.Spelled.{run_more}
use Rattle.sf_piece.proofs.name.Name.push_true.Goals as goal

pub returns-clause-ok : goal.returns-clause-ok
returns-clause-ok c = grind (arith, common_steps, run_more)
