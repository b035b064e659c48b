use Rattle.sf_crew.proofs.Common.{common_steps, arith}
use Rattle.sf_crew.proofs.Free.{exhausted_by_commits}
use Rattle.sf_crew.proofs.workers.hands.SharedBook.is_exhausted.Goals as goal

pub returns-else-counts-eq0 : goal.returns-else-counts-eq0
returns-else-counts-eq0 g c = grind (arith, common_steps, exhausted_by_commits)
