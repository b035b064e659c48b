use Rattle.sf_policy.proofs.Common.{map_from_collect, YieldsList-from_lines}
use Rattle.sf_policy.proofs.accepted.lines_of.Goals as goal

pub returns : goal.returns
returns c =
    map_from_collect c.collect.result c.collect.ensures.ran (YieldsList-from_lines c.args.text.now c.lines.ensures.rest)
