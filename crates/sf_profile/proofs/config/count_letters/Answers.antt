use Rattle.sf_profile.proofs.Common.{YieldsList-from_chars, count_from_yields_List}
use Rattle.sf_profile.proofs.config.count_letters.Goals as goal

pub returns : goal.returns
returns c =
    count_from_yields_List c.chars.result _ c.count.ensures.ran (YieldsList-from_chars c.args.key.now c.utf8.key cc)
