use Rattle.sf_behaviour.proofs.Common.{◌∙◌, ℕ, ap, sym, number_by, input-word}
use Rattle.sf_behaviour.proofs.words.WordLemmas.{word-of-same}
use Rattle.sf_behaviour.proofs.words.input_word.Goals as goal

pub returns-clause-word : goal.returns-clause-word
returns-clause-word c = word-of-same c.in_ok-variable_word.ensures.word (λ bits.
    ap (λ (n : ℕ). number_by n 1 32 bits) c.first_variable.ensures.is ∙ sym (input-word bits c.args.word c.requires))
