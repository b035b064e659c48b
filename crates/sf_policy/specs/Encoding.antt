-- How an entry is handed to `Question::of_masked`, which refuses it where that is due: an unknown action is handed in
-- as the empty set. And what is wrong with an entry that has a number outside 32 bits, which can't be handed in.
use Rattle.std.specs.Prelude.{ℕ, false, Option, Some, None, if◌then◌else◌, List, [], map, unwrap_or, Result, Ok, Err}
use Rattle.sf_policy.specs.Common.{list_all, Data, as_str, as_table, Members, no_members, Fault, ActionSet, QuestionData, is_name, question_of, WordEntry}
use Rattle.sf_question.specs.declared.fault.Fault.{Fault as AskFault}
use Rattle.sf_question.specs.declared.fault.Fault.TheVariants as ask
use Rattle.sf_stack.specs.declared.fault.Fault.TheVariants as faults
use Rattle.sf_policy.specs.Actions.{are_actions, actions_of}
use Rattle.sf_policy.specs.Words.{has_words, range_of, mask_of}

-- the range and the mask of an entry, where all its numbers are of 32 bits
abbrev pub numbers_in : WordEntry → Option ((ℕ × ℕ) × (ℕ × ℕ))
numbers_in w = if has_words w then Some (range_of w, mask_of w) else None

-- the ranges and the masks of entries, where all their numbers are of 32 bits
abbrev pub ranges_and_masks : List WordEntry → Option (List (ℕ × ℕ) × List (ℕ × ℕ))
ranges_and_masks ws = if list_all has_words ws then Some (map range_of ws, map mask_of ws) else None

-- the set without an action
abbrev pub no_actions : ActionSet
no_actions = record {
  kill_process = false;
  kill_thread = false;
  trap = false;
  errno = false;
  user_notif = false;
  trace = false;
  log = false;
  allow = false;
  other = false;
}

-- the set that is handed in, empty where one of the texts names no action
abbrev pub encoded_set : List (List ℕ) → ActionSet
encoded_set texts = if are_actions texts then actions_of texts else no_actions

-- the text of a value, empty where it is none
abbrev pub text_or_empty : Data → List ℕ
text_or_empty d = unwrap_or (as_str d) []

-- the table of a value, empty where it is none
abbrev pub table_or_empty : Data → Members
table_or_empty d = unwrap_or (as_table d) no_members

-- a fault of a question, with the question's number
abbrev pub numbered_fault : ℕ → AskFault → Fault
numbered_fault number ask.Name = faults.Name number
numbered_fault number ask.Range = faults.Range number
numbered_fault number ask.Mask = faults.Mask number
numbered_fault number ask.Actions = faults.Actions number
numbered_fault number ask.Memory = faults.Memory

-- what was made, or its fault with the question's number
abbrev pub with_number : {X : Type 0} → ℕ → Result X AskFault → Result X Fault
with_number number (Ok x) = Ok x
with_number number (Err fault) = Err (numbered_fault number fault)

-- what is wrong with a question that has a number outside 32 bits: its name, or else a range
abbrev pub fault_of_wide_number : ℕ → List ℕ → Fault
fault_of_wide_number number name = if is_name name then faults.Range number else faults.Name number

-- the question of a name, of ranges and masks, where they are there, and of actions, or what is wrong with it
abbrev pub question_of_parts : ℕ → List ℕ → Option (List (ℕ × ℕ) × List (ℕ × ℕ)) → ActionSet
    → Result QuestionData Fault
question_of_parts number name (Some ws) set = with_number number (question_of name ws.0 ws.1 set)
question_of_parts number name None set = Err (fault_of_wide_number number name)
