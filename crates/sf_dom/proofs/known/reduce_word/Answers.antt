use Rattle.sf_dom.proofs.Common.{arith, refl}
use Rattle.sf_dom.proofs.Reductions.{AreApart-and, narrowed}
use Rattle.sf_dom.proofs.ClosedLemmas.{none-both, word-widest, word-closed}
use Rattle.sf_dom.proofs.known.reduce_word.Goals as goal

pub least_left-requires : goal.least_left-requires
least_left-requires c = record { apart = AreApart-and c.args.known.zeros c.args.known.ones c.if-known-ne0.false }

pub returns-then-known-ne0 : goal.returns-then-known-ne0
returns-then-known-ne0 c = λ s h n. none-both c.args.known c.if-known-ne0.true s h.known n

pub returns : goal.returns
returns c =
    let k = c.args.known in let el = c.in_ok-low.ensures in let eh = c.in_ok-high.ensures in
    let m = c.leading_mask-mask.ensures in
    record {
      is = word-closed k _ c.args.excluded.now c.leading_mask-mask.result eh.0 (omega arith) m (omega arith)
          c.leading_mask-mask.type_inv refl refl el.2 el.3 eh.2 eh.3;
      narrower = narrowed k c.in_ok-low.low c.in_ok-high.high _ _ el.0 eh.1;
      widest = λ s h n. word-widest k s c.args.excluded.now c.in_ok-low.low c.in_ok-high.high _
          (omega arith) m el.4 eh.4 h n;
    }
