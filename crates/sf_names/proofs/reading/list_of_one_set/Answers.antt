use Rattle.sf_names.proofs.Common.{arith, common_steps}
use Rattle.sf_names.proofs.reading.SetLemmas.{alone}
use Rattle.sf_names.proofs.reading.list_of_one_set.Goals as goal

pub returns : goal.returns
returns c = alone _ _ _ c.in_ok-names.ensures (grind (arith, common_steps))
