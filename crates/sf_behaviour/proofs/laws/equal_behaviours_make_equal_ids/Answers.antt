use Rattle.sf_behaviour.proofs.answers.AnswerLemmas.{same-values}
use Rattle.sf_behaviour.proofs.laws.equal_behaviours_make_equal_ids.Goals as goal

pub returns : goal.returns
returns c = λ p q ts i j canonical h k alike.
    c.equal_values_make_equal_ids.ensures ts i j canonical h.within k.within (same-values p q ts i j h k alike)
