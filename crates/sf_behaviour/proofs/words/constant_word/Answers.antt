use Rattle.sf_behaviour.proofs.Common.{arith}
use Rattle.sf_behaviour.proofs.words.WordLemmas.{word-made}
use Rattle.sf_behaviour.proofs.words.constant_word.Goals as goal

pub returns-clause-word : goal.returns-clause-word
returns-clause-word c = word-made c.loop-i.i (omega arith) (λ bits. omega arith) c.loop-i.invariant.begun
