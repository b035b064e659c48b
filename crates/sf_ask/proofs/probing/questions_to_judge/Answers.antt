use Rattle.sf_ask.proofs.Common.{arith}
use Rattle.sf_ask.proofs.sheet.SheetLemmas.{clear-if-asked}
use Rattle.sf_ask.proofs.probing.questions_to_judge.Goals as goal

pub returns : goal.returns
returns c = search (arith, clear-if-asked)
