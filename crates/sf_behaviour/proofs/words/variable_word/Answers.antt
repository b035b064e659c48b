use Rattle.sf_behaviour.proofs.Common.{arith, keeps_more, number_by-small}
use Rattle.sf_behaviour.proofs.words.WordLemmas.{begun-more, word-made}
use Rattle.sf_behaviour.proofs.VariableLemmas.{variable-truth}
use Rattle.sf_behaviour.proofs.words.variable_word.Goals as goal

pub loop-i-preserved : goal.loop-i-preserved
loop-i-preserved c =
    let bit = c.in_ok-bit.ensures in
    record {
      keeps = keeps_more _ _ _ c.loop-i.invariant.keeps bit.keeps;
      begun = begun-more c.loop-i.i bit.keeps.trees (omega arith) c.loop-i.invariant.begun
          (variable-truth c.args.first c.args.distance c.loop-i.i c.literal.new.self.trees c.in_ok-bit.bit (omega arith)
          bit.within bit.tree);
    }

pub returns-clause-word : goal.returns-clause-word
returns-clause-word c =
    word-made c.loop-i.i (omega arith) (number_by-small c.args.first c.args.distance 32) c.loop-i.invariant.begun
