-- Which parts make a question, and what is refused.
use Rattle.std.specs.Prelude.{◌≡◌, ℕ, Bool, List, length, ◌&&◌, ◌==◌, nat_le, bit_and, if◌then◌else◌, not, Result, Ok, Err, IsOk}
use Rattle.std.specs.List.{list_all}
use Rattle.sf_question.specs.declared.actions.ActionSet.{ActionSet}
use Rattle.sf_question.specs.declared.fault.Fault.{Fault}
use Rattle.sf_question.specs.declared.fault.Fault.TheVariants as faults
use Rattle.sf_question.specs.Actions.{is_no_action}
use Rattle.sf_question.specs.QuestionData.{QuestionData}

-- a printable character other than the blank
abbrev pub is_printable : ℕ → Bool
is_printable byte = nat_le 0x21 byte && nat_le byte 0x7e

-- a name has 1 to 64 characters, each of them printable and not the blank
abbrev pub is_name : List ℕ → Bool
is_name text = nat_le 1 (length text) && nat_le (length text) 64 && list_all is_printable text

-- the low end of a range isn't above its high end
abbrev pub is_in_order : ℕ × ℕ → Bool
is_in_order range = nat_le range.0 range.1

-- of a pair (mask, value), the value has no bit outside the mask
abbrev pub is_inside_mask : ℕ × ℕ → Bool
is_inside_mask mask = bit_and mask.1 mask.0 == mask.1

-- the question of these parts, or its first fault: the name, then a range, then a mask, then the actions
abbrev pub question_of : List ℕ → List (ℕ × ℕ) → List (ℕ × ℕ) → ActionSet → Result QuestionData Fault
question_of name ranges masks actions =
    if not (is_name name) then Err faults.Name
    else if not (list_all is_in_order ranges) then Err faults.Range
    else if not (list_all is_inside_mask masks) then Err faults.Mask
    else if is_no_action actions then Err faults.Actions
    else Ok (record { name = name; ranges = ranges; masks = masks; actions = actions })

-- the question has sixteen ranges and sixteen masks, and `question_of` finds no fault in its parts
abbrev pub IsQuestion : QuestionData → Type 0
IsQuestion q = (length q.ranges ≡ 16) × (length q.masks ≡ 16) × (question_of q.name q.ranges q.masks q.actions ≡ Ok q)

-- a fault is the one that is due; refused memory is reported only where no fault is due
abbrev pub IsDueFault : {X : Type 0} → Fault → Result X Fault → Type 0
IsDueFault faults.Memory due = IsOk due
IsDueFault faults.Name due = due ≡ Err faults.Name
IsDueFault faults.Range due = due ≡ Err faults.Range
IsDueFault faults.Mask due = due ≡ Err faults.Mask
IsDueFault faults.Actions due = due ≡ Err faults.Actions

-- the result is the one that is due, unless memory ran out
abbrev pub MakesQuestion : {X : Type 0} → Result X Fault → Result X Fault → Type 0
MakesQuestion (Ok x) due = due ≡ Ok x
MakesQuestion (Err fault) due = IsDueFault fault due
