use Rattle.sf_dom.proofs.forward.ForwardLemmas.{shr-all}
use Rattle.sf_dom.proofs.forward.shift_right_by.Goals as goal

pub returns : goal.returns
returns c = shr-all c.args.a c.args.s c.requires
