use Rattle.sf_run.proofs.Common.{◌≡◌, ◌++◌, ◌-◌, bits}
use Rattle.sf_run.proofs.tracing.push_bits.Given as goal

abbrev pub invariant-loop-i : goal.invariant-loop-i
invariant-loop-i l = l.met.items ++ bits (32 - l.i) l.word ≡ l.initial.met.items ++ bits 32 l.word
