use Rattle.sf_run.proofs.Common.{feasible_are}
use Rattle.sf_run.proofs.laws.each_stack_has_its_feasible_traces.Goals as goal

pub returns : goal.returns
returns c = feasible_are
