use Rattle.sf_evaluate.proofs.Common.{inr, refl}
use Rattle.sf_evaluate.proofs.files.opened.read_file.Goals as goal

pub returns-in-Ok-clause-opened : goal.returns-in-Ok-clause-opened
returns-in-Ok-clause-opened g c = (_, refl, refl, c.in_ok-path.ensures.ok)

pub returns-in-Err-clause-failed : goal.returns-in-Err-clause-failed
returns-in-Err-clause-failed g c = inr (_, refl, refl, c.in_ok-path.ensures.ok)
