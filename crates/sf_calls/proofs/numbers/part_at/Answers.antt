use Rattle.sf_calls.proofs.Common.{lit<, nth_from_yields_List, YieldsList-from_str_split}
use Rattle.sf_calls.proofs.numbers.part_at.Goals as goal

pub returns : goal.returns
returns c = nth_from_yields_List _ _ c.args.place c.nth.ensures.ran
    (YieldsList-from_str_split 44 c.args.text.now (lit< tt) c.split.ensures.text c.split.ensures.has_more
    c.split.ensures.pattern)
