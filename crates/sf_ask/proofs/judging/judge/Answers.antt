use Rattle.sf_ask.proofs.Common.{common_steps, arith, sym, ◌∙◌, IfOk-weaker}
use Rattle.sf_ask.proofs.Searching.{not-asked, region-right}
use Rattle.sf_ask.proofs.judging.judge.Goals as goal

pub returns-then-not-has-clause-right : goal.returns-then-not-has-clause-right
returns-then-not-has-clause-right c =
    let s = c.args.settled.now in
    not-asked s c.args.region c.args.question.now c.region-settled_region.result.now
    c.region-settled_region.ensures.value c.region-settled_region.ensures.right
    (rw (c.actions.ensures, c.answer.ensures) at (sym c.has.ensures ∙ c.if-not-has.true))

pub returns-clause-right : goal.returns-clause-right
returns-clause-right c = grind (arith, common_steps, IfOk-weaker, region-right)
