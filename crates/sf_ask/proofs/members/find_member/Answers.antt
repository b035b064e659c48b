use Rattle.sf_ask.proofs.Common.{common_steps, arith, true≢false}
use Rattle.sf_ask.proofs.Leasts.{plain-least}
use Rattle.sf_ask.proofs.members.find_member.Goals as goal

pub returns-then-not-branch-clause-plain : goal.returns-then-not-branch-clause-plain
returns-then-not-branch-clause-plain c = grind (arith, common_steps, true≢false, plain-least)
