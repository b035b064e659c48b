use Rattle.sf_dom.proofs.fitting.NextFitting.{next}
use Rattle.sf_dom.proofs.fitting.next_fitting.Goals as goal

pub returns-clause-above : goal.returns-clause-above
returns-clause-above c = (next c.args.at c.args.zeros c.args.ones c.requires.apart c.requires.bits).above

pub returns-clause-bits : goal.returns-clause-bits
returns-clause-bits c = (next c.args.at c.args.zeros c.args.ones c.requires.apart c.requires.bits).bits

pub returns-clause-least : goal.returns-clause-least
returns-clause-least c = (next c.args.at c.args.zeros c.args.ones c.requires.apart c.requires.bits).least
