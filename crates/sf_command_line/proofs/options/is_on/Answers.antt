use Rattle.sf_command_line.proofs.Common.{common_steps, arith, one_text-rows}
use Rattle.sf_command_line.proofs.options.is_on.Goals as goal

pub returns : goal.returns
returns c = grind (arith, common_steps, one_text-rows)
