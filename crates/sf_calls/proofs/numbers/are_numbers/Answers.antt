use Rattle.sf_calls.proofs.Common.{lit<, rules, tests, all_from_yields_List, YieldsList-from_str_split, is_number}
use Rattle.sf_calls.proofs.numbers.are_numbers.Goals as goal

pub returns : goal.returns
returns c = all_from_yields_List is_number _ _ _ c.all.ensures.ran
    (YieldsList-from_str_split 44 c.args.text.now (lit< tt) c.split.ensures.text c.split.ensures.has_more
    c.split.ensures.pattern)
    (λ x b q k. search (rules, tests))
