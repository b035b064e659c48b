-- The faults of one filter, with the filter's number.
use Rattle.std.specs.Prelude.{ℕ}
use Rattle.sf_insn.specs.declared.fault.Fault.{Fault as DecodeFault}
use Rattle.sf_insn.specs.declared.fault.Fault.TheVariants as decode
use Rattle.sf_check.specs.declared.fault.Fault.{Fault as CheckFault}
use Rattle.sf_check.specs.declared.fault.Fault.TheVariants as check
use Rattle.sf_stack.specs.declared.fault.Fault.{Fault}
use Rattle.sf_stack.specs.declared.fault.Fault.TheVariants as faults

-- what is wrong with the bytes of a filter; refused memory has no filter's number
abbrev pub decode_fault : ℕ → DecodeFault → Fault
decode_fault filter decode.Ragged = faults.Ragged filter
decode_fault filter decode.Empty = faults.Empty filter
decode_fault filter decode.TooLong = faults.TooLong filter
decode_fault filter decode.Memory = faults.Memory

-- what is wrong with the program of a filter, or with the stack, which has no filter's number
abbrev pub check_fault : ℕ → CheckFault → Fault
check_fault filter check.Empty = faults.Empty filter
check_fault filter check.TooLong = faults.TooLong filter
check_fault filter (check.Code at) = faults.Code filter at
check_fault filter (check.Field at) = faults.Field filter at
check_fault filter (check.Jump at) = faults.Jump filter at
check_fault filter check.Last = faults.Last filter
check_fault filter (check.Scratch at) = faults.Scratch filter at
check_fault filter check.NoFilter = faults.NoFilter
check_fault filter check.TooMany = faults.TooMany
check_fault filter check.PathLength = faults.PathLength
check_fault filter check.Memory = faults.Memory
