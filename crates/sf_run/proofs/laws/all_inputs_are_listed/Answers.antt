use Rattle.sf_run.proofs.Common.{inputs_are}
use Rattle.sf_run.proofs.laws.all_inputs_are_listed.Goals as goal

pub returns : goal.returns
returns c = inputs_are
