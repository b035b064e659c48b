use Rattle.sf_command.proofs.Common.{handed_on, read_data}
use Rattle.sf_command.proofs.RefusalLemmas.{control_miscounted, miscounted}
use Rattle.sf_command.proofs.auditing.audit_filters.Goals as goal

pub returns-clause-found : goal.returns-clause-found
returns-clause-found g c = record {
  audit = c.in_ok-outcome.ensures.found;
  held = c.in_ok-held.held.items;
  right = rw (c.settled.ensures, c.deref.ensures.value) at c.in_ok-held.ensures.right;
  expects = c.of-expected.ensures;
}

pub returns-in_err-outcome-clause-refused : goal.returns-in_err-outcome-clause-refused
returns-in_err-outcome-clause-refused g c =
    handed_on _ c.from_residual.result c.in_err-outcome.field-0.0 c.from_residual.ensures.1
    (miscounted (read_data c.args.read) _ c.in_err-outcome.ensures.refused)

pub returns-in_err-held-clause-refused : goal.returns-in_err-held-clause-refused
returns-in_err-held-clause-refused g c =
    handed_on _ c.from_residual-in_err-held.result c.in_err-held.field-0.0 c.from_residual-in_err-held.ensures.1
    (control_miscounted (read_data c.args.read) _ (rw c.deref.ensures.value at c.in_err-held.ensures.refused))
