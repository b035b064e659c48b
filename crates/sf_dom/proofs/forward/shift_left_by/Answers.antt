use Rattle.sf_dom.proofs.forward.ForwardLemmas.{shl-fits, shl-full}
use Rattle.sf_dom.proofs.forward.shift_left_by.Goals as goal

pub returns-then-a-s : goal.returns-then-a-s
returns-then-a-s c = λ oa. shl-fits c.args.a c.args.s c.requires oa c.if-a-s.true

pub returns-else-a-s : goal.returns-else-a-s
returns-else-a-s c = λ oa. shl-full c.args.a c.args.s c.requires c.if-a-s.false
