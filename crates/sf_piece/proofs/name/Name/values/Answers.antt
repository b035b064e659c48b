use Rattle.sf_piece.proofs.Common.{common_steps, arith}
use Rattle.sf_piece.proofs.name.Spelled.{with_rest}
use Rattle.sf_piece.proofs.name.Name.values.Goals as goal

pub returns : goal.returns
returns c = grind (arith, common_steps, with_rest)
