use Rattle.sf_check.proofs.laws.Spelled.{same_program}
use Rattle.sf_check.proofs.laws.one_program_of_a_file.Goals as goal

pub returns : goal.returns
returns c = same_program c.one_spelling.ensures
