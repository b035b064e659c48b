use Rattle.sf_run.proofs.Common.{one}
use Rattle.sf_run.proofs.laws.one_answer.Goals as goal

pub returns : goal.returns
returns c = one
