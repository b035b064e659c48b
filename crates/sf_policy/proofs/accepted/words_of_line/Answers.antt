use Rattle.sf_policy.proofs.Common.{lit<, not, rules, tests, ◌==◌, YieldsList-at, YieldsList-from_filter, map_from_collect, YieldsList-from_take_while, YieldsList-from_str_split, is_comment, length}
use Rattle.sf_policy.proofs.accepted.words_of_line.Goals as goal

pub returns : goal.returns
returns c =
    map_from_collect c.collect.result c.collect.ensures.ran
    (YieldsList-from_filter _ (λ part. not (length part == 0))
    (YieldsList-at c.filter.ensures.source
    (YieldsList-from_take_while _ (λ part. not (is_comment part))
    (YieldsList-at c.take_while.ensures.source
    (YieldsList-from_str_split 32 c.args.line.now (lit< tt) c.split.ensures.text c.split.ensures.has_more
    c.split.ensures.pattern))
    c.take_while.ensures.closure c.take_while.ensures.done (λ x b q k. search (rules, tests))))
    c.filter.ensures.closure (λ x b q k. search (rules, tests)))
