use Rattle.sf_dom.proofs.Common.{arith, common_steps}
use Rattle.sf_dom.proofs.nodes.KeptNodes.{laid-out}
use Rattle.sf_dom.proofs.nodes.Nodes.variable_count.Goals as goal

pub returns-clause-laid_out : goal.returns-clause-laid_out
returns-clause-laid_out c = grind (arith, common_steps, laid-out)
