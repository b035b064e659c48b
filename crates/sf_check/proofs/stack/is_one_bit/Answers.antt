use Rattle.sf_check.proofs.Common.{common_steps, eq-eqb, arith, one_bit_counted, count_of_one_bit}
use Rattle.sf_check.proofs.stack.is_one_bit.Goals as goal

pub returns : goal.returns
returns c = grind (arith, common_steps, one_bit_counted, eq-eqb, count_of_one_bit)
