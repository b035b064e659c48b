use Rattle.sf_ask.proofs.Common.{common_steps, arith, IfOk-weaker}
use Rattle.sf_ask.proofs.Words.{of-true, word-confines}
use Rattle.sf_ask.proofs.Confinements.{word-rule}
use Rattle.sf_ask.proofs.confining.confine_word.Goals as goal

pub returns-clause-confined : goal.returns-clause-confined
returns-clause-confined c = grind (arith, common_steps, of-true, word-confines, IfOk-weaker)

pub returns-clause-rule : goal.returns-clause-rule
returns-clause-rule c = grind (arith, common_steps, of-true, IfOk-weaker, word-rule)
