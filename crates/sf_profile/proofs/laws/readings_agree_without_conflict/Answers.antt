use Rattle.sf_profile.proofs.laws.LawLemmas.{agreed}
use Rattle.sf_profile.proofs.laws.readings_agree_without_conflict.Goals as goal

pub returns : goal.returns
returns c = agreed
