use Rattle.sf_names.proofs.Common.{arith, common_steps}
use Rattle.sf_names.proofs.reading.SetLemmas.{one_set_more}
use Rattle.sf_names.proofs.reading.sets_of.Goals as goal

pub loop-set-preserved : goal.loop-set-preserved
loop-set-preserved c = grind (arith, common_steps, one_set_more)
