use Rattle.sf_crew.proofs.Common.{common_steps, arith}
use Rattle.sf_crew.proofs.Working.{one_stolen, got_nothing, none_stolen}
use Rattle.sf_crew.proofs.workers.hands.stealing.steal_at.Goals as goal

pub returns-in-Success : goal.returns-in-Success
returns-in-Success g c = one_stolen _ _ c.steal.new.self c.index-others-place.result c.in-Success.lease c.requires
    (rw c.in-Success.is at c.steal.ensures.got)

pub returns-in-Empty : goal.returns-in-Empty
returns-in-Empty g c = grind (arith, common_steps, none_stolen, got_nothing)
