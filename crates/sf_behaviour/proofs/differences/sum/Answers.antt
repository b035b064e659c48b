use Rattle.sf_behaviour.proofs.Common.{arith, apply, Sub}
use Rattle.sf_behaviour.proofs.words.WordLemmas.{number-now, word-by, word-of-same, word-small}
use Rattle.sf_behaviour.proofs.differences.sum.Goals as goal

-- less minus b is plus b
pub returns-clause-word : goal.returns-clause-word
returns-clause-word c =
    let a = number-now c.in_ok-minus.ensures.store.0.trees c.requires.a in
    word-of-same (word-by (λ bits. apply Sub) a c.in_ok-minus.ensures.word c.in_ok-difference.ensures.word)
    (λ bits. omega (arith, word-small bits c.requires.b))
