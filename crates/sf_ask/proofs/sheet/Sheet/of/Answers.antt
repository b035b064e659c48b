use Rattle.sf_ask.proofs.Common.{common_steps, arith, all-bits}
use Rattle.sf_ask.proofs.sheet.Sheet.of.Goals as goal

pub judge-requires-clause-clear : goal.judge-requires-clause-clear
judge-requires-clause-clear c = grind (arith, common_steps, all-bits)
