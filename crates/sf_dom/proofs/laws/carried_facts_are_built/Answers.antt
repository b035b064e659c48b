use Rattle.sf_dom.proofs.laws.Carried.{carried-built}
use Rattle.sf_dom.proofs.laws.carried_facts_are_built.Goals as goal

pub returns : goal.returns
returns c = carried-built
