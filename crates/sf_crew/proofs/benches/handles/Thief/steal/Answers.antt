use Rattle.sf_crew.proofs.Histories.{takes, finds_few, steal_keeps, steal_late, live_kept}
use Rattle.sf_crew.proofs.benches.handles.Thief.steal.Goals as goal

pub steal_as-requires-clause-takes : goal.steal_as-requires-clause-takes
steal_as-requires-clause-takes g c = takes _ _ c.args.self.now.live

pub steal_as-requires-clause-empty : goal.steal_as-requires-clause-empty
steal_as-requires-clause-empty g c = finds_few _ _ _ c.args.self.now.fifo

pub invariant_of-self-clause-live : goal.invariant_of-self-clause-live
invariant_of-self-clause-live g c = live_kept _ _ c.args.self.now.live (steal_keeps _ _ _ _ c.steal_as.ensures.rule)

pub returns-clause-handles : goal.returns-clause-handles
returns-clause-handles g c = steal_keeps _ _ _ _ c.steal_as.ensures.rule

pub returns-clause-retry : goal.returns-clause-retry
returns-clause-retry g c = steal_late _ _ _ _ c.steal_as.ensures.rule
