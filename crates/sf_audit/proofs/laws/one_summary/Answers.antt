use Rattle.sf_audit.proofs.laws.OneReport.{same_summary}
use Rattle.sf_audit.proofs.laws.one_summary.Goals as goal

pub returns : goal.returns
returns c = same_summary c.explorations_have_one_result.ensures c.replies_have_one_result.ensures
