use Rattle.sf_ask.proofs.OneVerdict.{one-verdict}
use Rattle.sf_ask.proofs.laws.verdicts_have_one_result.Goals as goal

pub returns : goal.returns
returns c = one-verdict c.rules_have_one_result.ensures
