use Rattle.sf_behaviour.proofs.forward.ForwardLemmas.{carried-more}
use Rattle.sf_behaviour.proofs.forward.carry.Goals as goal

pub returns-in-Tests : goal.returns-in-Tests
returns-in-Tests c = rw c.in-Tests.is (carried-more _ _ _ _ _ _ c.carry_to-in-Tests.ensures
    c.carry_to-in-Tests-2.ensures)
