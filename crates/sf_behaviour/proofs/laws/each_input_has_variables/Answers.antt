use Rattle.sf_behaviour.proofs.Common.{input-back, input-is}
use Rattle.sf_behaviour.proofs.laws.each_input_has_variables.Goals as goal

pub returns-clause-variables : goal.returns-clause-variables
returns-clause-variables c = input-back

pub returns-clause-input : goal.returns-clause-input
returns-clause-input c = input-is
