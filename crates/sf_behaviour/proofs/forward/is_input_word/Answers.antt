use Rattle.sf_behaviour.proofs.Common.{arith}
use Rattle.sf_behaviour.proofs.forward.ForwardLemmas.{input-word}
use Rattle.sf_behaviour.proofs.forward.is_input_word.Goals as goal

pub returns : goal.returns
returns c = λ e. input-word c.args.store.now.trees c.args.word.now.bits c.requires
    (λ i l. c.loop-i.invariant i (omega arith))
