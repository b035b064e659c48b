use Rattle.sf_sym.proofs.Common.{◌≡◌, take, values_of}
use Rattle.sf_sym.proofs.pool.Pool.first_values.Given as goal

abbrev pub invariant-loop-i : goal.invariant-loop-i
invariant-loop-i l = l.values.items ≡ values_of (take l.i l.self) l.input
