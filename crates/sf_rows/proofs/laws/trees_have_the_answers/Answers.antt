use Rattle.sf_rows.proofs.Common.{arith, input_bits}
use Rattle.sf_rows.proofs.RowLemmas.{answers-input, has-answer}
use Rattle.sf_rows.proofs.laws.trees_have_the_answers.Goals as goal

pub returns-clause-answer : goal.returns-clause-answer
returns-clause-answer c = λ programs t d a is input answers. (
  has-answer programs t d a c.each_input_has_variables.ensures.variables is input answers,
  λ e. absurd (omega (arith, e, is.small (input_bits d))),
)

pub returns-clause-input : goal.returns-clause-input
returns-clause-input c = λ programs t is.
    answers-input programs t c.each_input_has_variables.ensures.input c.equal_values_make_equal_trees.ensures is
