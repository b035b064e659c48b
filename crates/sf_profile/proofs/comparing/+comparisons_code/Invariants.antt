use Rattle.sf_profile.proofs.Common.{length}
use Rattle.sf_profile.proofs.comparing.+comparisons_code.Given as goal

abbrev pub decreases-comparisons_code : goal.decreases-comparisons_code
decreases-comparisons_code l = length l.comparisons.now
