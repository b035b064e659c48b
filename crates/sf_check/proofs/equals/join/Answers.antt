use Rattle.sf_check.proofs.Common.{arith}
use Rattle.sf_check.proofs.equals.EqualLemmas.{joined_one}
use Rattle.sf_check.proofs.equals.join.Goals as goal

pub returns-then-chains-next : goal.returns-then-chains-next
returns-then-chains-next c = search (arith, joined_one)
