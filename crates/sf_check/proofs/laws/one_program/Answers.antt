use Rattle.sf_check.proofs.laws.Spelled.{one_spelled}
use Rattle.sf_check.proofs.laws.one_program.Goals as goal

pub returns : goal.returns
returns c = one_spelled
