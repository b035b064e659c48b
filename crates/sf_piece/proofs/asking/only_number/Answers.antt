use Rattle.sf_piece.proofs.Common.{common_steps, arith, refl, closed-consistent}
use Rattle.sf_piece.proofs.Foretold.{decided_number}
use Rattle.sf_piece.proofs.asking.only_number.Goals as goal

pub returns-clause-value : goal.returns-clause-value
returns-clause-value c = c.in_ok-number.ensures.some _ refl

pub returns-clause-known : goal.returns-clause-known
returns-clause-known c = grind (arith, common_steps, closed-consistent, decided_number)
