-- The numbers of faults.
use Rattle.std.specs.Prelude.{ℕ}
use Rattle.sf_diagram.specs.declared.fault.Fault.{Fault}
use Rattle.sf_diagram.specs.declared.fault.Fault.TheVariants.{Spent, Memory}

-- the number under which the program reports a fault
abbrev pub fault_number : Fault → ℕ
fault_number Spent = 32
fault_number Memory = 60
