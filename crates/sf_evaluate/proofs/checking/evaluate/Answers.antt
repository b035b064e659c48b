use Rattle.sf_evaluate.proofs.Common.{◌∙◌, map, view, on_ok_weaker}
use Rattle.sf_evaluate.proofs.checking.evaluate.Goals as goal

pub returns-clause-written : goal.returns-clause-written
returns-clause-written g c =
    let (answer, answers, shown) = c.in_ok-text.ensures.shown in
    on_ok_weaker c.print.result
    (λ written. (
      c.in_ok-stack.stack,
      map view c.in_ok-stack.documents.items,
      c.in_ok-stack.ensures.held,
      c.in_ok-stack.ensures.told,
      (answer, answers, rw (c.deref.ensures ∙ shown) at written),
    )) c.print.ensures.written
