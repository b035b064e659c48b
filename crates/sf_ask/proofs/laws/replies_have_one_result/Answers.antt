use Rattle.sf_ask.proofs.laws.OneReply.{one-reply}
use Rattle.sf_ask.proofs.laws.replies_have_one_result.Goals as goal

pub returns : goal.returns
returns c = one-reply c.explorations_have_one_result.ensures c.execution_has_one_result.ensures
    c.verdicts_have_one_result.ensures
