use Rattle.sf_sym.proofs.Common.{common_steps, arith, OperandsBelow-at}
use Rattle.sf_sym.proofs.pool.Pool.node_at.Goals as goal

pub returns-clause-operands : goal.returns-clause-operands
returns-clause-operands c = grind (arith, common_steps, OperandsBelow-at)
