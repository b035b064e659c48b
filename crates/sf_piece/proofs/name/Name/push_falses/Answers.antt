use Rattle.sf_piece.proofs.Common.{arith, common_steps}
use Rattle.sf_piece.proofs.name.Spelled.{falses_more, rest_within}
use Rattle.sf_piece.proofs.name.Name.push_falses.Goals as goal

pub overflow_add-self : goal.overflow_add-self
overflow_add-self c = grind (arith, common_steps, rest_within)

pub returns : goal.returns
returns c = grind (arith, common_steps, falses_more)
