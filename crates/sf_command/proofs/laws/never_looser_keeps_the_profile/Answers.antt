use Rattle.sf_command.proofs.laws.ProfileLemmas.{kept}
use Rattle.sf_command.proofs.laws.never_looser_keeps_the_profile.Goals as goal

pub returns : goal.returns
returns c = kept c.one_program_of_a_file.ensures
