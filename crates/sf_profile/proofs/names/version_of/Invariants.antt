use Rattle.sf_profile.proofs.Common.{◌≡◌, false, None, fold, take, version_step}
use Rattle.sf_profile.proofs.names.version_of.Given as goal

abbrev pub invariant-loop-byte : goal.invariant-loop-byte
invariant-loop-byte l =
    l.read ≡ fold version_step (record { major = None; digits = None; wrong = false }) (take l.byte-index l.byte-items)
