use Rattle.sf_crew.proofs.Histories.{forks}
use Rattle.sf_crew.proofs.benches.handles.Owner.add_thief.Goals as goal

pub another-pass-requires : goal.another-pass-requires
another-pass-requires g c = forks _ _ c.requires
