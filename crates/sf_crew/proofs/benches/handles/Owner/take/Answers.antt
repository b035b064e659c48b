use Rattle.sf_crew.proofs.Histories.{takes, finds, take_keeps, live_kept}
use Rattle.sf_crew.proofs.WholeBenches.{known_first}
use Rattle.sf_crew.proofs.benches.handles.Owner.take.Goals as goal

pub pop_as-requires-clause-fifo : goal.pop_as-requires-clause-fifo
pop_as-requires-clause-fifo g c = λ _. takes _ _ c.args.self.now.live

pub pop_as-requires-clause-empty : goal.pop_as-requires-clause-empty
pop_as-requires-clause-empty g c = finds _ _

pub invariant_of-self-clause-live : goal.invariant_of-self-clause-live
invariant_of-self-clause-live g c = live_kept _ _ c.args.self.now.live (take_keeps _ _ _ c.pop_as.ensures.rule)

pub returns-clause-handles : goal.returns-clause-handles
returns-clause-handles g c = take_keeps _ _ _ c.pop_as.ensures.rule

pub returns-clause-whole : goal.returns-clause-whole
returns-clause-whole g c = λ whole. known_first _ _ _ whole c.pop_as.ensures.rule
