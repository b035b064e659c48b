use Rattle.sf_profile.proofs.laws.LawLemmas.{bounds}
use Rattle.sf_profile.proofs.laws.readings_are_bounds.Goals as goal

pub returns : goal.returns
returns c = bounds
