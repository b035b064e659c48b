use Rattle.sf_audit.proofs.laws.OneReport.{same_report}
use Rattle.sf_audit.proofs.laws.one_report.Goals as goal

pub returns : goal.returns
returns c = same_report c.explorations_have_one_result.ensures c.replies_have_one_result.ensures
