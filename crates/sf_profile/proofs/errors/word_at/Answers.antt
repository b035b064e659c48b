use Rattle.sf_profile.proofs.Common.{lit<, nth_from_yields_List, YieldsList-from_str_split}
use Rattle.sf_profile.proofs.errors.word_at.Goals as goal

pub returns : goal.returns
returns c =
    nth_from_yields_List _ _ c.args.place c.nth.ensures.ran
    (YieldsList-from_str_split 32 c.args.words.now (lit< tt) c.split.ensures.text c.split.ensures.has_more
    c.split.ensures.pattern)
