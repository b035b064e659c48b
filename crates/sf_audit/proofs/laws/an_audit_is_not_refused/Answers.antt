use Rattle.sf_audit.proofs.laws.Exclusive.{audited_not_refused}
use Rattle.sf_audit.proofs.laws.an_audit_is_not_refused.Goals as goal

pub returns : goal.returns
returns c = audited_not_refused c.a_refusal_spells_no_stack.ensures
