use Rattle.sf_sym.proofs.Common.{arith, common_steps, value-last}
use Rattle.sf_sym.proofs.pool.Pool.value.Goals as goal

pub returns : goal.returns
returns c = grind (arith, common_steps, value-last)
