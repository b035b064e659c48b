use Rattle.sf_dom.proofs.Common.{common_steps, arith}
use Rattle.sf_dom.proofs.Reductions.{IsNarrower-trans, freedom-falls}
use Rattle.sf_dom.proofs.known.reduce_known.Goals as goal

pub loop-next-smaller : goal.loop-next-smaller
loop-next-smaller c = grind (arith, common_steps, freedom-falls)

pub loop-next-preserved : goal.loop-next-preserved
loop-next-preserved c =
    let v = c.loop-next.invariant in let r = c.in-Some.ensures in
    record {
      narrower = IsNarrower-trans c.args.known c.loop-next.at c.in-Some.next v.narrower r.narrower;
      widest = λ k h n. r.widest k h (v.widest k h n);
    }

pub returns : goal.returns
returns c = λ k h n. c.in_default.ensures k h (c.loop-next.invariant.widest k h n)
