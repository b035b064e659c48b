use Rattle.sf_dom.proofs.AscendingLemmas.{one-ok}
use Rattle.sf_dom.proofs.exclusions.with_number.Goals as goal

pub returns-in-None : goal.returns-in-None
returns-in-None c = rw c.in-None.is (one-ok c.of.result c.args.number c.of.ensures)
