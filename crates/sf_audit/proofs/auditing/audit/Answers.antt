use Rattle.sf_audit.proofs.Common.{IfErr-weaker, IfOk-weaker}
use Rattle.sf_audit.proofs.auditing.AuditLemmas.{audit_of_files, refusal_of_files}
use Rattle.sf_audit.proofs.auditing.audit.Goals as goal

pub returns-clause-found : goal.returns-clause-found
returns-clause-found g c = IfOk-weaker c.audit_stack.result _ _
    (λ o audit. audit_of_files _ _ _ c.in_ok-stack.ensures.accepted _ o audit) c.audit_stack.ensures.found

pub returns-clause-refused : goal.returns-clause-refused
returns-clause-refused g c = IfErr-weaker c.audit_stack.result _ _
    (λ e why. refusal_of_files _ _ _ c.in_ok-stack.ensures.accepted e why) c.audit_stack.ensures.refused
