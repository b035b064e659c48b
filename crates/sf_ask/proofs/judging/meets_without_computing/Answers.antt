use Rattle.sf_ask.proofs.Common.{common_steps, ◌≡◌, arith, sym, ◌∙◌, ap, take_all, is_met, is_member}
use Rattle.sf_ask.proofs.Searching.{met-more, not-met}
use Rattle.sf_ask.proofs.judging.meets_without_computing.Goals as goal

pub returns-then-not-branch : goal.returns-then-not-branch
unfolding is_member
returns-then-not-branch c = search (arith, not-met)

pub loop-i-preserved : goal.loop-i-preserved
loop-i-preserved c =
    let p = c.args.piece.now in
    let d = c.args.input.now in
    let met : c.in_ok-holds_without_computing.field-0 ≡ is_met p.pool d c.cond.result =
    c.in_ok-holds_without_computing.ensures.met ∙ ap (λ ns. is_met ns d c.cond.result) c.pool.ensures.value in
    met-more (is_met p.pool d) p.conditions c.loop-i.i c.cond.result c.cond.ensures.value
    c.loop-i.invariant (sym met ∙ c.if-not-branch.false)

pub returns : goal.returns
unfolding is_member
returns c = grind (arith, common_steps, take_all)
