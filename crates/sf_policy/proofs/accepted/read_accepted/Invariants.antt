use Rattle.sf_policy.proofs.Common.{map, string_bytes, take}
use Rattle.sf_policy.proofs.accepted.AcceptedLemmas.{ReadSoFar}
use Rattle.sf_policy.proofs.accepted.read_accepted.Given as goal

abbrev pub invariant-loop-place : goal.invariant-loop-place
invariant-loop-place l = ReadSoFar l.questions (take l.place l.line-items) (map string_bytes l.names.items)
