use Rattle.sf_crew.proofs.Histories.{pushes, put_keeps, live_kept}
use Rattle.sf_crew.proofs.benches.handles.Owner.put.Goals as goal

pub push_as-requires-clause-pushes : goal.push_as-requires-clause-pushes
push_as-requires-clause-pushes g c = pushes _ _ _ c.args.self.now.port c.args.self.now.live

pub invariant_of-self-clause-live : goal.invariant_of-self-clause-live
invariant_of-self-clause-live g c = live_kept _ _ c.args.self.now.live
    (put_keeps _ _ _ _ _ _ _ _ c.push_as.ensures.rule)

pub returns-clause-handles : goal.returns-clause-handles
returns-clause-handles g c = put_keeps _ _ _ _ _ _ _ _ c.push_as.ensures.rule
