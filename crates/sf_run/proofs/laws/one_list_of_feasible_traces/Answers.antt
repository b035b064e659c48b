use Rattle.sf_run.proofs.Common.{one_list}
use Rattle.sf_run.proofs.laws.one_list_of_feasible_traces.Goals as goal

pub returns : goal.returns
returns c = one_list
