use Rattle.sf_run.proofs.Common.{route_is_short}
use Rattle.sf_run.proofs.laws.routes_are_short.Goals as goal

pub returns : goal.returns
returns c = route_is_short
