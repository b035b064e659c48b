use Rattle.sf_dom.proofs.Common.{arith, sym, suc, refl, ℕ, ◌≡◌, ◌∙◌, ◌<◌, length, set, Some, None, BinOp, known_at, gained}
use Rattle.sf_dom.proofs.BackLaws.{gained-narrower}
use Rattle.sf_dom.proofs.Lawful.{narrowed-trans, narrowed-left}
use Rattle.sf_dom.proofs.Passes.{reduced-stays}
use Rattle.sf_dom.proofs.assuming.propagate_back.Goals as goal

other-op : (o p : BinOp × ℕ × ℕ) → Some o ≡ Some p → o.0 ≡ p.0
other-op o p e = cc

pub loop-op-preserved : goal.loop-op-preserved
loop-op-preserved c =
    let ks = c.loop-op.nodes.known in let ns = c.args.pool.now in let ex = c.args.excluded.now in let o = c.in-Some in
    let inv = c.loop-op.invariant in let within = inv.within in let closed = inv.narrowed.closed in
    let count = closed.count in
    let gain = rw (c.get.ensures, c.get-in-Some.ensures) at c.in-Some-backward.ensures in
    let here : o.x < length ns = omega (arith, o.ensures.smaller) in
    let next = c.in-Some-reduce_at.next in
    let left = rw gain.1 at c.in-Some-reduce_at.ensures in
    let more = gained o.op o.c (known_at ks c.loop-op.at) (known_at ks o.x) in
    rw c.set.ensures.known (record {
      within = here;
      narrowed = narrowed-trans c.args.nodes.now.known ks (set ks o.x next) ex ns c.requires.closed inv.narrowed
          (narrowed-left ks ex ns o.x more next closed here
          (gained-narrower o.op o.c (known_at ks c.loop-op.at) (known_at ks o.x)) left);
      variables = c.set.ensures.variables ∙ inv.variables;
      on = λ r w. inv.on r (
        suc w.0,
        ((o.op, o.x, o.c), sym o.ensures.operand, gain.0, (Some (set ks o.x next), (Some next, left, refl), w.1)),
      );
    })

pub set-requires-clause-decided : goal.set-requires-clause-decided
set-requires-clause-decided c = λ d.
    let ks = c.loop-op.nodes.known in let o = c.in-Some in let inv = c.loop-op.invariant in let within = inv.within in
    let gain = rw (c.get.ensures, c.get-in-Some.ensures) at c.in-Some-backward.ensures in
    let here : o.x < length c.args.pool.now = omega (arith, o.ensures.smaller) in
    let left = rw gain.1 at c.in-Some-reduce_at.ensures in
    let at = known_at ks c.loop-op.at in let own = known_at ks o.x in
    reduced-stays c.args.excluded.now o.x own (gained o.op o.c at own) c.in-Some-reduce_at.next
    (inv.narrowed.closed.each o.x here) (gained-narrower o.op o.c at own) left d

pub returns-in-None-clause-back : goal.returns-in-None-clause-back
returns-in-None-clause-back c =
    let o = c.in-Some in
    c.loop-op.invariant.on (Some c.loop-op.nodes.known) (
      0,
      ((λ p e s. c.in-None.ensures (rw (other-op p (o.op, o.x, o.c) (sym e ∙ sym o.ensures.operand)) at s)), refl),
    )

pub returns-in-None-reduce_at-clause-back : goal.returns-in-None-reduce_at-clause-back
returns-in-None-reduce_at-clause-back c =
    let o = c.in-Some in
    let gain = rw (c.get.ensures, c.get-in-Some.ensures) at c.in-Some-backward.ensures in
    let none = rw gain.1 at c.in-None-reduce_at.ensures in
    c.loop-op.invariant.on None (1, ((o.op, o.x, o.c), sym o.ensures.operand, gain.0, (None, (None, none, refl), refl)))
