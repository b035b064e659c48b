use Rattle.sf_command.proofs.Common.{inl, map, view}
use Rattle.sf_evaluate.specs.laws.FilesLaws.{handed_on}
use Rattle.sf_command.proofs.comparing.compare.Goals as goal

pub returns-clause-written : goal.returns-clause-written
returns-clause-written g c = record {
  found = c.in_ok-comparison.comparison;
  old_stack = rw c.in_ok-comparison.ensures.old c.in_ok-old.ensures.old;
  new_stack = rw c.in_ok-comparison.ensures.new c.in_ok-old.ensures.new;
  comparison = c.in_ok-comparison.ensures.found;
  files = map view c.in_ok-old.documents.items;
  told = c.in_ok-old.ensures.told;
  written = c.in_ok-write_compared.ensures.written;
  status_is = rw c.finding.ensures at c.status_of_finding.ensures.status;
}

pub returns-in_err-old-clause-refused : goal.returns-in_err-old-clause-refused
returns-in_err-old-clause-refused g c =
    handed_on _ c.from_residual.result c.in_err-old.field-0.0 c.from_residual.ensures.1
    (inl c.in_err-old.ensures.refused)
