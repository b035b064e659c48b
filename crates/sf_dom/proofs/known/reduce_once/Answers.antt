use Rattle.sf_dom.proofs.Common.{◌-◌, arith, refl, bit_and}
use Rattle.sf_dom.proofs.Reductions.{narrowed}
use Rattle.sf_dom.proofs.ClosedLemmas.{none-between, none-both, round-widest, round-last}
use Rattle.sf_dom.proofs.known.reduce_once.Goals as goal

pub returns-then-high-low : goal.returns-then-high-low
returns-then-high-low c =
    none-between c.args.known c.max-low.result c.min-high.result c.max-low.ensures c.min-high.ensures (omega arith)

pub returns-then-known-ne0 : goal.returns-then-known-ne0
returns-then-known-ne0 c = none-both c.args.known c.if-known-ne0.true

pub returns : goal.returns
returns c =
    let k = c.args.known in let low = c.max-low.result in let high = c.min-high.result in let el = c.max-low.ensures in
    let eh = c.min-high.ensures in let m = c.leading_mask-mask.ensures in
    record {
      narrower = narrowed k low high (bit_and (4294967295 - low) c.leading_mask-mask.result)
          (bit_and low c.leading_mask-mask.result) (omega arith) (omega arith);
      ordered = omega arith;
      widest = λ s h n. round-widest k s low high _ el eh (omega arith) m h n;
      last = λ e. round-last k _ _ el eh (omega arith) (omega arith) (omega arith) c.if-known-ne0.false m refl refl e;
    }
