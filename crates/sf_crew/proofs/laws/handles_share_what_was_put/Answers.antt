use Rattle.sf_crew.proofs.laws.GetLemmas.{shared_out}
use Rattle.sf_crew.proofs.laws.handles_share_what_was_put.Goals as goal

pub returns : goal.returns
returns g c = λ v h has. shared_out v h has
