use Rattle.sf_sym.proofs.Common.{arith, constant_number-is}
use Rattle.sf_sym.proofs.operands.OperandLemmas.{value-left, value-right}
use Rattle.sf_sym.proofs.operands.constant_operand.Goals as goal

pub returns-in-None-Some-clause-value : goal.returns-in-None-Some-clause-value
returns-in-None-Some-clause-value c = search (arith, value-right, constant_number-is)

pub returns-in-Some-None-clause-value : goal.returns-in-Some-None-clause-value
returns-in-Some-None-clause-value c = search (arith, value-left, constant_number-is)
