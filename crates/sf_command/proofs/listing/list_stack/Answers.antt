use Rattle.sf_command.proofs.Common.{on_ok_weaker}
use Rattle.sf_command.proofs.listing.list_stack.Goals as goal

pub returns-clause-written : goal.returns-clause-written
returns-clause-written g c = on_ok_weaker c.write_listed.result
    (λ written. (
      c.in_ok-listing.listing,
      c.in_ok-listing.ensures.stack,
      c.in_ok-listing.ensures.listed,
      written,
    )) c.write_listed.ensures.written
