use Rattle.sf_profile.proofs.laws.LawLemmas.{applied_by_words}
use Rattle.sf_profile.proofs.laws.rules_apply_by_words.Goals as goal

pub returns : goal.returns
returns c = applied_by_words
