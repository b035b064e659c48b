use Rattle.sf_compare.proofs.laws.UserLemmas.{breaks_no_more}
use Rattle.sf_compare.proofs.laws.never_looser_breaks_no_more.Goals as goal

pub returns : goal.returns
returns c = breaks_no_more
