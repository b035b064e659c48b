use Rattle.sf_crew.proofs.laws.GetLemmas.{all_known}
use Rattle.sf_crew.proofs.laws.joined_handles_know_all.Goals as goal

pub returns : goal.returns
returns g c = λ v h whole has. all_known v h whole has
