use Rattle.sf_evaluate.proofs.Common.{map, sym, view, on_ok_weaker}
use Rattle.sf_evaluate.proofs.checking.check.Goals as goal

pub returns-clause-written : goal.returns-clause-written
returns-clause-written g c = on_ok_weaker c.print.result
    (λ written. (
      c.in_ok-stack.stack,
      map view c.in_ok-stack.documents.items,
      c.in_ok-stack.ensures.held,
      c.in_ok-stack.ensures.told,
      (c.deref.result.now, rw (sym c.deref.ensures) at c.in_ok-text.ensures, written),
    )) c.print.ensures.written
