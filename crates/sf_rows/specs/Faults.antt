-- Why no rows are shown.
use Rattle.std.specs.Prelude.{ℕ}
use Rattle.sf_diagram.specs.declared.fault.Fault.{Fault as StoreFault}
use Rattle.sf_diagram.specs.declared.fault.Fault.TheVariants as store_faults
use Rattle.sf_parts.specs.declared.fault.Fault.{Fault as PartsFault}
use Rattle.sf_parts.specs.declared.fault.Fault.TheVariants as parts_faults
use Rattle.sf_stack.specs.declared.fault.Fault.{Fault as ToldFault}
use Rattle.sf_stack.specs.declared.fault.Fault.TheVariants as told_faults
use Rattle.sf_rows.specs.Common.{Fault, Nodes, Rows, Memory}

-- a store that is spent has too many nodes
abbrev pub of_store : StoreFault → Fault
of_store store_faults.Spent = Nodes
of_store store_faults.Memory = Memory

-- rows that are spent are too many
abbrev pub of_parts : PartsFault → Fault
of_parts parts_faults.Spent = Rows
of_parts parts_faults.Memory = Memory

-- the fault with which the program ends, where the diagrams may have this many nodes
abbrev pub told_fault : Fault → ℕ → ToldFault
told_fault Nodes nodes = told_faults.TooLarge nodes
told_fault Rows nodes = told_faults.TooManyRows
told_fault Memory nodes = told_faults.Memory
