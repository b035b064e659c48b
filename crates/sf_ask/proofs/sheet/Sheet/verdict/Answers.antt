use Rattle.sf_ask.proofs.Common.{common_steps, ◌<◌, length, map, sym, subst, ◌∙◌, arith, length-map, Verdict, IsRightWhereGiven}
use Rattle.std.proofs.Common.{Option}
use Rattle.sf_ask.proofs.sheet.SheetLemmas.{first-at}
use Rattle.sf_ask.proofs.sheet.Sheet.verdict.Goals as goal

pub returns-in-None-clause-value : goal.returns-in-None-clause-value
returns-in-None-clause-value c = grind (arith, common_steps, length-map, first-at)

pub returns-in-None-clause-right : goal.returns-in-None-clause-right
returns-in-None-clause-right c =
    let n = length c.self.inside.questions.items in
    let h = rw (← c.self.view_is) at c.requires in
    let below : c.args.q < n = omega (arith, h, length-map c.self.inside.questions.items (λ q. q.value)) in
    let right = rw c.in-None.is at (c.self.invariant.0.right c.args.q h) in
    rw (← c.self.view_is) (subst (λ (v : Option Verdict). IsRightWhereGiven c.self.inside.settled.value
    (map (λ q. q.value) c.self.inside.questions.items) c.self.inside.job c.args.q v)
    (first-at c.self.inside.wanted n c.args.q below ∙ sym c.clear_verdict.ensures) right)
