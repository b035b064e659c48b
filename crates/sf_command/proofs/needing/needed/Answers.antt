use Rattle.sf_command.proofs.Common.{map, view}
use Rattle.sf_command.proofs.needing.needed.Goals as goal

pub returns-clause-written : goal.returns-clause-written
returns-clause-written g c = record {
  needs = c.in_ok-needs.needs;
  stack = rw c.in_ok-needs.ensures.stack c.in_ok-stack.ensures.held;
  found = c.in_ok-needs.ensures.needs;
  files = map view c.in_ok-stack.documents.items;
  told = c.in_ok-stack.ensures.told;
  written = c.in_ok-write_needs.ensures.written;
  status_is = c.status_of_needs.ensures.status;
}
