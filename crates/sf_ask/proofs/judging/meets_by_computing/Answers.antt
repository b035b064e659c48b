use Rattle.sf_ask.proofs.Common.{common_steps, ◌≡◌, arith, sym, ◌∙◌, ap, take_all, is_met, is_met_by, is_member}
use Rattle.sf_ask.proofs.Searching.{met-more, not-met}
use Rattle.sf_ask.proofs.Words.{mapped-at}
use Rattle.sf_ask.proofs.judging.meets_by_computing.Goals as goal

pub returns-then-not-is_met-clause-tells : goal.returns-then-not-is_met-clause-tells
unfolding is_member
returns-then-not-is_met-clause-tells c = search (arith, not-met)

pub loop-i-preserved : goal.loop-i-preserved
loop-i-preserved c =
    let p = c.args.piece.now in
    let cond = c.cond-cond.result in
    let found =
    mapped-at _ _ c.values.result c.map_err.result c.in_ok-values.values c.map_err.ensures.cases c.values.ensures.values
    c.in_ok-values.was in
    let on = rw c.pool.ensures.value at (c.as_slice.ensures.value ∙ found) in
    let met : c.is_met.result ≡ is_met p.pool c.args.input.now cond =
    c.is_met.ensures ∙ ap (λ v. is_met_by v cond) on in
    met-more (is_met p.pool c.args.input.now) p.conditions c.loop-i.i cond c.cond-cond.ensures.value
    c.loop-i.invariant (sym met ∙ c.if-not-is_met.false)

pub returns-clause-tells : goal.returns-clause-tells
unfolding is_member
returns-clause-tells c = grind (arith, common_steps, take_all)
