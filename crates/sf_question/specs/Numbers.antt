-- The numbers under which faults are reported.
use Rattle.std.specs.Prelude.{ℕ}
use Rattle.sf_question.specs.declared.fault.Fault.{Fault}
use Rattle.sf_question.specs.declared.fault.Fault.TheVariants.{Name, Range, Mask, Actions, Memory}

-- the number of each refusal of a question, and of refused memory
abbrev pub fault_number : Fault → ℕ
fault_number Name = 44
fault_number Range = 42
fault_number Mask = 48
fault_number Actions = 43
fault_number Memory = 60
