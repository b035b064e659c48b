use Rattle.sf_dom.proofs.Common.{eqb-true}
use Rattle.sf_dom.proofs.fitting.NextFitting.{HasBits-fits}
use Rattle.sf_dom.proofs.fitting.fits.Goals as goal

pub returns-then-n-zeros-eq0 : goal.returns-then-n-zeros-eq0
returns-then-n-zeros-eq0 c = λ t. HasBits-fits c.args.n c.args.zeros c.args.ones c.if-n-zeros-eq0.true (eqb-true _ _ t)
