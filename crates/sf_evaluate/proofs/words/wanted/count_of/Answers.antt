use Rattle.sf_evaluate.proofs.Common.{◌∙◌, lit<, rules, tests, bytes_eq, YieldsList-at, YieldsList-from_filter, count_from_yields_List, YieldsList-from_str_split, length-filter, comma_parts}
use Rattle.sf_evaluate.proofs.words.wanted.count_of.Goals as goal

pub returns : goal.returns
returns c =
    count_from_yields_List c.filter.result _ c.count.ensures.ran
    (YieldsList-from_filter _ (bytes_eq c.args.name.now)
    (YieldsList-at c.filter.ensures.source (YieldsList-from_str_split 44 c.args.text.now (lit< tt) c.split.ensures.text
    c.split.ensures.has_more c.split.ensures.pattern)) c.filter.ensures.closure (λ x r q k. search (rules, tests)))
    ∙ length-filter (bytes_eq c.args.name.now) (comma_parts c.args.text.now)
