use Rattle.sf_behaviour.proofs.Common.{◌∙◌, ap₂, combined, sym, arith, keeps_more}
use Rattle.sf_behaviour.proofs.words.WordLemmas.{begun-more, bit-now, truth-of-same, word-made, word-small}
use Rattle.sf_behaviour.proofs.BitLemmas.{combined-bit, combined-kept, combined-small}
use Rattle.sf_behaviour.proofs.combining.combine.Goals as goal

pub loop-i-preserved : goal.loop-i-preserved
loop-i-preserved c =
    let h = c.loop-i.invariant in
    let bit = c.in_ok-bit.ensures in
    let i = c.loop-i.i in
    let o = c.args.operation in
    record {
      keeps = keeps_more _ _ _ h.keeps bit.store.0;
      begun = begun-more i bit.store.0.trees (omega arith) h.begun (truth-of-same bit.truth (λ bits.
          ap₂ (combined c.loop-i.store.trees bits o) (bit-now i bits h.keeps.trees c.requires.a (omega arith))
          (bit-now i bits h.keeps.trees c.requires.b (omega arith))
          ∙ combined-kept _ _ bits o _ _ h.keeps.trees c.requires.operation ∙ sym (combined-bit _ bits o _ _ i)));
    }

pub returns-clause-word : goal.returns-clause-word
returns-clause-word c =
    word-made c.loop-i.i (omega arith) (λ bits. combined-small _ bits c.args.operation _ _
    (word-small bits c.requires.a) (word-small bits c.requires.b)) c.loop-i.invariant.begun
