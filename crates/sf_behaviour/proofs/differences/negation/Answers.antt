use Rattle.sf_behaviour.proofs.Common.{arith, apply, Sub}
use Rattle.sf_behaviour.proofs.words.WordLemmas.{number-now, word-by, word-of-same}
use Rattle.sf_behaviour.proofs.differences.negation.Goals as goal

-- 0 less a word is minus the word
pub returns-clause-word : goal.returns-clause-word
returns-clause-word c =
    let zero = c.in_ok-zero.ensures in
    let number = number-now zero.store.0.trees c.requires in
    word-of-same (word-by (λ bits. apply Sub) zero.word number c.in_ok-difference.ensures.word) (λ bits. omega arith)
