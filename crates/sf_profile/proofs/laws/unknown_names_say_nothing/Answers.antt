use Rattle.sf_profile.proofs.Common.{refl}
use Rattle.sf_profile.proofs.laws.unknown_names_say_nothing.Goals as goal

pub returns : goal.returns
returns c = λ s set alone name unknown none. rw (unknown, none) refl
