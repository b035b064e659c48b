use Rattle.sf_ask.proofs.Common.{common_steps, arith, length-map}
use Rattle.sf_ask.proofs.sheet.SheetLemmas.{first-length, first-at, first-clear, skipped, right-if-wanted}
use Rattle.sf_ask.proofs.sheet.Sheet.judge.Goals as goal

pub invariant_of-result : goal.invariant_of-result
invariant_of-result c = search (arith, length-map, first-length, first-at, right-if-wanted, first-clear)

pub returns-then-share_none-clause-wanted : goal.returns-then-share_none-clause-wanted
returns-then-share_none-clause-wanted c = grind (arith, common_steps, length-map, first-at, skipped)
