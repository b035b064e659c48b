use Rattle.sf_stack.proofs.Common.{arith, common_steps, err_from_is_err_and}
use Rattle.sf_stack.proofs.filters.FilterLemmas.{one_more_file, one_file_refused}
use Rattle.sf_stack.proofs.filters.programs_of.Goals as goal

pub returns-in_err-program-clause-refused : goal.returns-in_err-program-clause-refused
returns-in_err-program-clause-refused c = grind (arith, common_steps, err_from_is_err_and, one_file_refused)

pub loop-i-preserved : goal.loop-i-preserved
loop-i-preserved c = grind (arith, common_steps, one_more_file)
