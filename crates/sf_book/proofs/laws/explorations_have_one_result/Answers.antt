use Rattle.sf_book.proofs.Trees.{results-one}
use Rattle.sf_book.proofs.laws.explorations_have_one_result.Goals as goal

pub returns : goal.returns
returns c = results-one c.execution_has_one_result.ensures
