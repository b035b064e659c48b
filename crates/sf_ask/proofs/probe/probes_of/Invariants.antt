use Rattle.sf_ask.proofs.Common.{AreProbes}
use Rattle.sf_ask.proofs.probe.probes_of.Given as goal

abbrev pub invariant-loop-place : goal.invariant-loop-place
invariant-loop-place l = AreProbes l.questions l.place l.by_call.items l.others.items
