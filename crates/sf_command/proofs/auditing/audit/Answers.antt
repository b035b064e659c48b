use Rattle.sf_command.proofs.Common.{inl, inr, map, string_bytes, fun_ext, view, read_data, handed_on}
use Rattle.sf_command.proofs.RefusalLemmas.{audit_why, unwritten_audit, without_second}
use Rattle.sf_command.proofs.auditing.audit.Goals as goal

pub returns-clause-written : goal.returns-clause-written
returns-clause-written g c = record {
  read = read_data c.in_ok-read.read;
  asked_by = c.in_ok-read.ensures.read;
  origins = map view c.in_ok-read.origins.items;
  placed = rw c.are_placed-placed.ensures at c.in_ok-read.ensures.placed;
  groups = c.in_ok-groups.groups.items;
  grouped = rw (fun_ext c.in_ok-read.ensures.same) at c.in_ok-groups.ensures.meant;
  stack = c.in_ok-stack.stack;
  held = rw (fun_ext c.in_ok-groups.ensures.same, fun_ext c.in_ok-read.ensures.same) at c.in_ok-stack.ensures.held;
  files = map view c.in_ok-documents.documents.items;
  told = (
    map view c.in_ok-read.policies.items,
    map view c.in_ok-stack.filters.items,
    c.in_ok-read.ensures.told,
    rw (fun_ext c.in_ok-groups.ensures.same, fun_ext c.in_ok-read.ensures.same) at c.in_ok-stack.ensures.told,
    c.in_ok-documents.ensures,
  );
  found = c.in_ok-outcome.outcome;
  expected = c.in_ok-outcome.expected;
  is_found = c.in_ok-outcome.ensures.found;
  remarks = map string_bytes c.in_ok-remarks.remarks.items;
  remarked = c.in_ok-remarks.ensures.shown;
  written = rw (
    c.is_expecting.ensures,
    c.deref.ensures.value,
    c.deref-2.ensures.value,
    c.deref-3.ensures.value,
  ) at c.in_ok-write_audit.ensures.written;
  status_is = c.status_of_audit-status.ensures.status;
}

pub returns-in_err-read-clause-refused : goal.returns-in_err-read-clause-refused
returns-in_err-read-clause-refused g c =
    handed_on _ c.from_residual.result c.in_err-read.field-0.0 c.from_residual.ensures.1
    (inr (inr (inl c.in_err-read.ensures.refused)))

pub returns-in_err-groups-clause-refused : goal.returns-in_err-groups-clause-refused
returns-in_err-groups-clause-refused g c =
    handed_on _ c.from_residual-in_err-groups.result c.in_err-groups.field-0.0 c.from_residual-in_err-groups.ensures.1
    (inr (inr (inl (inr (inr (inr
    (rw (fun_ext c.in_ok-read.ensures.same) at c.in_err-groups.ensures.refused)))))))

pub returns-in_err-stack-clause-refused : goal.returns-in_err-stack-clause-refused
returns-in_err-stack-clause-refused g c =
    handed_on _ c.from_residual-in_err-stack.result c.in_err-stack.field-0.0 c.from_residual-in_err-stack.ensures.1
    (inr (inr (inr (
      read_data c.in_ok-read.read,
      c.in_ok-read.ensures.read,
      inl (rw (
        fun_ext c.in_ok-groups.ensures.same,
        fun_ext c.in_ok-read.ensures.same,
      ) at c.in_err-stack.ensures.refused),
    ))))

pub returns-in_err-outcome-clause-refused : goal.returns-in_err-outcome-clause-refused
returns-in_err-outcome-clause-refused g c =
    handed_on _ c.from_residual-in_err-outcome.result c.in_err-outcome.field-0.0
    c.from_residual-in_err-outcome.ensures.1
    (audit_why _ _ _ (read_data c.in_ok-read.read) c.in_ok-stack.stack _ c.in_ok-read.ensures.read
    (rw (fun_ext c.in_ok-groups.ensures.same, fun_ext c.in_ok-read.ensures.same) at c.in_ok-stack.ensures.held)
    c.in_err-outcome.ensures.refused)

pub returns-in_err-remarks-clause-refused : goal.returns-in_err-remarks-clause-refused
returns-in_err-remarks-clause-refused g c =
    handed_on _ c.from_residual-in_err-remarks.result c.in_err-remarks.field-0.0
    c.from_residual-in_err-remarks.ensures.1 (inr (inl c.in_err-remarks.ensures.refused))

pub returns-clause-status : goal.returns-clause-status
returns-clause-status g c = c.status_of_audit-status.ensures.few

pub returns-in_err-write_audit-clause-refused : goal.returns-in_err-write_audit-clause-refused
returns-in_err-write_audit-clause-refused g c =
    handed_on _ c.from_residual-in_err-write_audit.result c.in_err-write_audit.field-0.0
    c.from_residual-in_err-write_audit.ensures.1 (unwritten_audit _ _ _ _ _ c.in_err-write_audit.ensures.refused)

pub returns-in_err-write_audit-clause-quiet : goal.returns-in_err-write_audit-clause-quiet
returns-in_err-write_audit-clause-quiet g c =
    handed_on _ c.from_residual-in_err-write_audit.result c.in_err-write_audit.field-0.0
    c.from_residual-in_err-write_audit.ensures.1 (without_second c.in_err-write_audit.ensures.refused)
