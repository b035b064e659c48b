use Rattle.sf_check.proofs.laws.FirstFaults.{one_fault}
use Rattle.sf_check.proofs.laws.one_first_fault.Goals as goal

pub returns : goal.returns
returns c = one_fault
