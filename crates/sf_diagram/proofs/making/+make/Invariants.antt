use Rattle.sf_diagram.proofs.Common.{weight}
use Rattle.sf_diagram.proofs.making.+make.Given as goal

abbrev pub decreases-make : goal.decreases-make
decreases-make l = weight l.task
