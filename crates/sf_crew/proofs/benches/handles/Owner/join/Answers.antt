use Rattle.sf_crew.proofs.Histories.{learns}
use Rattle.sf_crew.proofs.benches.handles.JoinedHandles.{merges}
use Rattle.sf_crew.proofs.benches.handles.Owner.join.Goals as goal

pub absorb-requires-clause-rule : goal.absorb-requires-clause-rule
absorb-requires-clause-rule g c = merges _ _ _ _ c.args.self.now.live

pub len_as-requires : goal.len_as-requires
len_as-requires g c = learns _ _
