use Rattle.sf_names.proofs.Common.{arith, common_steps}
use Rattle.sf_names.proofs.reading.NeverSyntax.{no_syntax}
use Rattle.sf_names.proofs.reading.read_names.Goals as goal

pub returns-in-Ok-clause-syntax : goal.returns-in-Ok-clause-syntax
returns-in-Ok-clause-syntax c = grind (arith, common_steps, no_syntax)
