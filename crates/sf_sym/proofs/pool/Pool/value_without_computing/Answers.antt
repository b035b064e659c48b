use Rattle.sf_sym.proofs.Common.{common_steps, arith, value-last}
use Rattle.sf_sym.proofs.pool.Pool.value_without_computing.Goals as goal

pub returns-in-Const-clause-value : goal.returns-in-Const-clause-value
returns-in-Const-clause-value c = grind (arith, common_steps, value-last)

pub returns-in-Word-clause-value : goal.returns-in-Word-clause-value
returns-in-Word-clause-value c = grind (arith, common_steps, value-last)

pub returns-then-id-lt16-clause-value : goal.returns-then-id-lt16-clause-value
returns-then-id-lt16-clause-value c = search (arith, value-last)
