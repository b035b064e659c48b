use Rattle.sf_calls.proofs.Common.{lit<, count_from_yields_List, YieldsList-from_str_split}
use Rattle.sf_calls.proofs.numbers.count_parts.Goals as goal

pub returns : goal.returns
returns c = count_from_yields_List c.split.result _ c.count.ensures.ran
    (YieldsList-from_str_split 44 c.args.text.now (lit< tt) c.split.ensures.text c.split.ensures.has_more
    c.split.ensures.pattern)
