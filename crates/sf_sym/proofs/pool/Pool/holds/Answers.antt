use Rattle.sf_sym.proofs.Common.{arith, common_steps, value-take}
use Rattle.sf_sym.proofs.pool.Pool.holds.Goals as goal

pub returns : goal.returns
returns c = grind (arith, common_steps, value-take)
