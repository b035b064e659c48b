use Rattle.sf_audit.proofs.Common.{arith}
use Rattle.sf_audit.proofs.report.text.push_question.Goals as goal

pub returns-in_ok-digits-in-Allowed : goal.returns-in_ok-digits-in-Allowed
returns-in_ok-digits-in-Allowed c = search arith
