use Rattle.sf_dom.proofs.Common.{arith, refl, sym, ◌∙◌, false≢true}
use Rattle.sf_dom.proofs.BackLaws.{back-step, goes_back-end, goes_back-other, back-on}
use Rattle.sf_dom.proofs.telling.are_propagated_back.Goals as goal

pub returns-in-None : goal.returns-in-None
returns-in-None c = (
  λ t. (let ks = c.args.nodes.now.known in
      let ns = c.args.pool.now in let o = c.in-Some in
      c.loop-op.invariant.back (goes_back-other ks ns c.loop-op.at o.x o.c o.op
      (sym o.ensures.operand) c.in-None.ensures)),
  λ h. refl,
)

pub returns-then-not-is_same : goal.returns-then-not-is_same
returns-then-not-is_same c =
    let ks = c.args.nodes.now.known in let ns = c.args.pool.now in let o = c.in-Some in
    let gain = rw (c.get.ensures, c.get-operand.ensures) at c.in-Some-backward.ensures in (
      (λ t. absurd (false≢true t)),
      (λ h.
          let at = c.loop-op.invariant.on h in let e = sym o.ensures.operand in
          let same = (back-on ks ns c.loop-op.at o.x o.c o.op e gain.0 at 0).0 in
          absurd (false≢true (sym c.if-not-is_same.true
          ∙ c.is_same.ensures.1 (gain.1 ∙ same ∙ sym c.get-operand.ensures)))),
    )

pub loop-op-preserved : goal.loop-op-preserved
loop-op-preserved c =
    let ks = c.args.nodes.now.known in let ns = c.args.pool.now in let o = c.in-Some in let inv = c.loop-op.invariant in
    let within = inv.within in let e = sym o.ensures.operand in
    let gain = rw (c.get.ensures, c.get-operand.ensures) at c.in-Some-backward.ensures in
    let same = sym gain.1 ∙ c.is_same.ensures.0 c.if-not-is_same.false ∙ c.get-operand.ensures in
    record {
      within = omega (arith, o.ensures.smaller);
      back = λ h. inv.back (back-step ks ns c.loop-op.at o.x o.c o.op e same h);
      on = λ h n. (back-on ks ns c.loop-op.at o.x o.c o.op e gain.0 (inv.on h) n).1;
    }

pub returns : goal.returns
returns c = (
  (λ t. c.loop-op.invariant.back (goes_back-end c.args.nodes.now.known c.args.pool.now c.loop-op.at
      (sym c.constant_operand.ensures.operand ∙ c.in_default.is))),
  (λ h. refl),
)
