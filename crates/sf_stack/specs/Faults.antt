-- The numbers under which faults are reported, and the faults of other crates.
use Rattle.std.specs.Prelude.{ℕ}
use Rattle.sf_stack.specs.declared.fault.Fault.{Fault}
use Rattle.sf_stack.specs.declared.fault.Fault.TheVariants as faults
use Rattle.sf_names.specs.declared.fault.Fault.{Fault as NamesFault}
use Rattle.sf_names.specs.declared.fault.Fault.TheVariants as names_faults
use Rattle.sf_diagram.specs.declared.fault.Fault.{Fault as DiagramFault}
use Rattle.sf_diagram.specs.declared.fault.Fault.TheVariants as diagram_faults

-- why the program refuses a file of names
abbrev pub of_names : NamesFault → Fault
of_names names_faults.Syntax = faults.Syntax
of_names names_faults.Key = faults.NamesKey
of_names names_faults.Count = faults.NamesCount
of_names names_faults.Range = faults.NamesRange
of_names names_faults.Memory = faults.Memory

-- the fault of stacks for which a store of diagrams has this one, where it may have this many nodes
abbrev pub of_diagrams : DiagramFault → ℕ → Fault
of_diagrams diagram_faults.Spent nodes = faults.TooLarge nodes
of_diagrams diagram_faults.Memory nodes = faults.Memory

-- the number of each refusal, and of refused memory
abbrev pub fault_number : Fault → ℕ
fault_number (faults.Ragged filter) = 10
fault_number (faults.Empty filter) = 11
fault_number (faults.TooLong filter) = 12
fault_number (faults.Code filter at) = 20
fault_number (faults.Field filter at) = 21
fault_number (faults.Jump filter at) = 22
fault_number (faults.Last filter) = 23
fault_number (faults.Scratch filter at) = 24
fault_number faults.NoFilter = 25
fault_number faults.TooMany = 26
fault_number faults.PathLength = 27
fault_number (faults.TooLarge nodes) = 32
fault_number faults.TooManyRows = 32
fault_number faults.Version = 40
fault_number faults.TopKey = 41
fault_number (faults.Key question) = 41
fault_number (faults.Range question) = 42
fault_number (faults.Actions question) = 43
fault_number (faults.Name question) = 44
fault_number faults.Count = 45
fault_number faults.Syntax = 46
fault_number faults.Input = 47
fault_number (faults.Mask question) = 48
fault_number faults.NamesKey = 41
fault_number faults.NamesCount = 45
fault_number faults.NamesRange = 42
fault_number faults.UnknownName = 44
fault_number (faults.Accepted at) = 44
fault_number faults.Read = 50
fault_number faults.Write = 51
fault_number faults.Memory = 60
