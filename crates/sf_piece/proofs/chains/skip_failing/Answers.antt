use Rattle.sf_piece.proofs.Common.{arith, common_steps}
use Rattle.sf_piece.proofs.FailingSteps.{others_fail}
use Rattle.sf_piece.proofs.chains.skip_failing.Goals as goal

pub returns-in-Some : goal.returns-in-Some
returns-in-Some c = grind (arith, common_steps, others_fail)
