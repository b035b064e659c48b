use Rattle.sf_book.proofs.Common.{enough, plain_has_members}
use Rattle.sf_book.proofs.laws.the_least_budget_that_leaves_nothing.Goals as goal

pub returns : goal.returns
returns c = λ b settled plain ended. enough b settled (plain_has_members b plain) ended
