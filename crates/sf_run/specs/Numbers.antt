-- The numbers under which faults are reported.
use Rattle.std.specs.Prelude.{ℕ}
use Rattle.sf_run.specs.Common.{Fault, Memory}

-- the number of the only fault, a lack of memory
abbrev pub fault_number : Fault → ℕ
fault_number Memory = 60
