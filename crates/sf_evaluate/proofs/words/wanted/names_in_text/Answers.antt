use Rattle.sf_evaluate.proofs.Common.{lit<, map_from_collect, YieldsList-from_str_split}
use Rattle.sf_evaluate.proofs.words.wanted.WantedLemmas.{names_there}
use Rattle.sf_evaluate.proofs.words.wanted.names_in_text.Goals as goal

pub returns : goal.returns
returns c =
    rw (names_there c.args.text.now (rw c.is_empty.ensures at c.if-is_empty.false))
    (map_from_collect c.collect.result c.collect.ensures.ran
    (YieldsList-from_str_split 44 c.args.text.now (lit< tt) c.split.ensures.text c.split.ensures.has_more
    c.split.ensures.pattern))
