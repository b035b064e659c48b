-- The numbers of faults.
use Rattle.std.specs.Prelude.{ℕ}
use Rattle.sf_book.specs.Common.{Fault, Foreign, Stale, Spent, Memory}

-- the number under which the program reports a fault
abbrev pub fault_number : Fault → ℕ
fault_number Foreign = 30
fault_number Stale = 31
fault_number Spent = 32
fault_number Memory = 60
