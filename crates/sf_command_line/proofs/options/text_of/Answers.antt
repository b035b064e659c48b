use Rattle.sf_command_line.proofs.Common.{common_steps, arith, first_value-rows, read_or}
use Rattle.sf_command_line.proofs.options.text_of.Goals as goal

pub returns : goal.returns
returns c = grind (arith, common_steps, read_or, first_value-rows)
