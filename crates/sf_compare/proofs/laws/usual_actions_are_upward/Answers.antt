use Rattle.sf_compare.proofs.laws.UserLemmas.{usual-upward}
use Rattle.sf_compare.proofs.laws.usual_actions_are_upward.Goals as goal

pub returns : goal.returns
returns c = usual-upward
