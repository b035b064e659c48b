use Rattle.sf_rows.proofs.RowLemmas.{one-answers-tree}
use Rattle.sf_rows.proofs.others.OtherLemmas.{shown-once}
use Rattle.sf_rows.proofs.laws.equal_answers_are_shown_alike.Goals as goal

pub returns-clause-tree : goal.returns-clause-tree
returns-clause-tree c = λ p q s t is also alike.
    one-answers-tree p q s t c.each_input_has_variables.ensures.input c.equal_values_make_equal_trees.ensures is also
    alike

pub returns-clause-shown : goal.returns-clause-shown
returns-clause-shown c = λ calls s t sets x y first second.
    shown-once calls s t sets x y c.equal_values_make_equal_trees.ensures first second
