use Rattle.sf_ask.proofs.Common.{common_steps, arith, slice_get_read}
use Rattle.sf_ask.proofs.sheet.SheetLemmas.{judged-right}
use Rattle.sf_ask.proofs.sheet.verdict_on.Goals as goal

pub returns-clause-right : goal.returns-clause-right
returns-clause-right c = grind (arith, common_steps, slice_get_read, judged-right)
