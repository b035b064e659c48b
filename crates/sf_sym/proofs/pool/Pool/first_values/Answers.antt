use Rattle.sf_sym.proofs.Common.{common_steps, arith, values_of-more, length-values_of}
use Rattle.sf_sym.proofs.pool.Pool.first_values.Goals as goal

pub compute-value-requires : goal.compute-value-requires
compute-value-requires c = grind (arith, common_steps, length-values_of)

pub loop-i-preserved : goal.loop-i-preserved
loop-i-preserved c = grind (arith, common_steps, values_of-more)

pub returns-clause-count : goal.returns-clause-count
returns-clause-count c = grind (arith, common_steps, length-values_of)
