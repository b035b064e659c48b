-- The numbers under which refusals of profiles are reported.
use Rattle.std.specs.Prelude.{ℕ}
use Rattle.sf_profile.specs.Common.{Fault}
use Rattle.sf_profile.specs.declared.fault.Fault.TheVariants as faults

-- the number of each refusal, and of refused memory
abbrev pub fault_number : Fault → ℕ
fault_number faults.TooLong = 12
fault_number faults.Key = 41
fault_number (faults.RuleKey rule) = 41
fault_number faults.Range = 42
fault_number (faults.RuleRange rule) = 42
fault_number faults.Actions = 43
fault_number (faults.RuleActions rule) = 43
fault_number (faults.RuleName rule) = 44
fault_number (faults.RuleUnknown rule) = 44
fault_number (faults.RuleCount rule) = 45
fault_number faults.Syntax = 46
fault_number faults.Set = 49
fault_number faults.Memory = 60
