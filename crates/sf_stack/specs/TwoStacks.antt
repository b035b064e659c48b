-- Why the files of two stacks are refused. Their filters are numbered together, those of the old one first.
use Rattle.std.specs.Prelude.{◌≡◌, ◌⊎◌, ℕ, ◌+◌, List, length}
use Rattle.sf_check.specs.declared.insn.Insn.{Insn}
use Rattle.sf_stack.specs.declared.fault.Fault.{Fault}
use Rattle.sf_stack.specs.declared.fault.Fault.TheVariants as faults
use Rattle.sf_stack.specs.Filters.{IsFirstRefusal, SpellStack}

-- the number of the filter that is refused; 0 where the fault isn't that of a filter
abbrev pub filter_number : Fault → ℕ
filter_number (faults.Ragged filter) = filter
filter_number (faults.Empty filter) = filter
filter_number (faults.TooLong filter) = filter
filter_number (faults.Code filter at) = filter
filter_number (faults.Field filter at) = filter
filter_number (faults.Jump filter at) = filter
filter_number (faults.Last filter) = filter
filter_number (faults.Scratch filter at) = filter
filter_number _ = 0

-- the fault where the filters stand behind this many others
abbrev pub counted_on : ℕ → Fault → Fault
counted_on older (faults.Ragged filter) = faults.Ragged (filter + older)
counted_on older (faults.Empty filter) = faults.Empty (filter + older)
counted_on older (faults.TooLong filter) = faults.TooLong (filter + older)
counted_on older (faults.Code filter at) = faults.Code (filter + older) at
counted_on older (faults.Field filter at) = faults.Field (filter + older) at
counted_on older (faults.Jump filter at) = faults.Jump (filter + older) at
counted_on older (faults.Last filter) = faults.Last (filter + older)
counted_on older (faults.Scratch filter at) = faults.Scratch (filter + older) at
counted_on older fault = fault

-- the first refusal of new files, whose filters stand behind this many others
abbrev pub IsNewRefusal : ℕ → List (List ℕ) → Fault → Type 0
IsNewRefusal older files fault = (first : Fault) × IsFirstRefusal files first × (fault ≡ counted_on older first)

-- the first refusal of the old files; or, where these spell a stack, that of the new ones
abbrev pub IsRefusalOfBoth : (old new : List (List ℕ)) → Fault → Type 0
IsRefusalOfBoth old new fault = IsFirstRefusal old fault
    ⊎ ((programs : List (List Insn)) × SpellStack old programs × IsNewRefusal (length programs) new fault)
