use Rattle.sf_run.proofs.Common.{◌≡◌, flat_map, met_by}
use Rattle.sf_run.proofs.tracing.trace.Given as goal

abbrev pub invariant-loop-program : goal.invariant-loop-program
invariant-loop-program l = l.met.items ≡ flat_map (λ p. met_by p.now l.input) l.yielded
