use Rattle.sf_behaviour.proofs.Common.{◌∙◌}
use Rattle.sf_behaviour.proofs.words.WordLemmas.{word-small}
use Rattle.sf_behaviour.proofs.places.source_diagram.Goals as goal

pub returns-in_ok-id-in_default-clause-values : goal.returns-in_ok-id-in_default-clause-values
returns-in_ok-id-in_default-clause-values c = record {
  within = c.in_ok-id-in_default.ensures.number.within;
  values = λ bits. c.in_ok-id-in_default.ensures.number.values bits ∙ c.in_ok-word-in_default.ensures.word.values bits;
}

pub returns-in_ok-id-in_default-clause-small : goal.returns-in_ok-id-in_default-clause-small
returns-in_ok-id-in_default-clause-small c = λ bits.
    rw (c.in_ok-id-in_default.ensures.number.values bits) (word-small bits c.in_ok-word-in_default.ensures.word.word)
