use Rattle.sf_run.proofs.Common.{lawful_ends}
use Rattle.sf_run.proofs.laws.lawful_programs_return.Goals as goal

pub returns : goal.returns
returns c = lawful_ends
