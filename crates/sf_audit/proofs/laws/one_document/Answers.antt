use Rattle.sf_audit.proofs.laws.OneReport.{same_document}
use Rattle.sf_audit.proofs.laws.one_document.Goals as goal

pub returns : goal.returns
returns c = same_document c.explorations_have_one_result.ensures c.replies_have_one_result.ensures
