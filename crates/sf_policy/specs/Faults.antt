-- Results that are the due ones unless memory is refused.
use Rattle.std.specs.Prelude.{◌≡◌, Result, Ok, Err}
use Rattle.sf_policy.specs.Common.{Fault, Refusal}
use Rattle.sf_stack.specs.declared.fault.Fault.TheVariants as faults

-- a fault other than refused memory is the one that is due
abbrev pub IsFaultDue : {X : Type 0} → Fault → Result X Fault → Type 0
IsFaultDue faults.Memory due = Unit {0}
IsFaultDue fault due = due ≡ Err fault

-- what a function answered, seen by `view`, is what is due, unless memory is refused
abbrev pub IsDue : {X Y : Type 0} → (X → Y) → Result X Fault → Result Y Fault → Type 0
IsDue view (Ok x) due = due ≡ Ok (view x)
IsDue view (Err fault) due = IsFaultDue fault due

-- what was read, or only the fault of a refusal
abbrev pub without_place : {X : Type 0} → Result X Refusal → Result X Fault
without_place (Ok x) = Ok x
without_place (Err refusal) = Err refusal.fault
