use Rattle.sf_profile.proofs.Common.{length}
use Rattle.sf_profile.proofs.repeated.repeated_in.Given as goal

abbrev pub decreases-loop-token : goal.decreases-loop-token
decreases-loop-token l = length l.reader
