-- Where a policy is refused for a fault: the question, and the key of it or at the top.
use Rattle.std.specs.Prelude.{ℕ, zero, suc, Bool, true, false, not, ◌&&◌, List, [], String, codes, find, slice_get, Option, Some, None, Result, Ok, Err, is_none, option_and_then, option_map, unwrap_or, if◌then◌else◌}
use Rattle.sf_policy.specs.Common.{Data, array, Members, get_member, as_table, BTreeMap, Value, table_view, Version, WordEntry, Fault}
use Rattle.std.specs.declared.alloc.Global.{Global}
use Rattle.sf_stack.specs.declared.fault.Fault.TheVariants as faults
use Rattle.sf_policy.specs.Keys.{question_keys, top_keys, unknown_key, word_keys}
use Rattle.sf_policy.specs.Trees.{item_list, number_at, text_at}
use Rattle.sf_policy.specs.Words.{entry_at, has_mask, has_range, has_words}
use Rattle.sf_policy.specs.Policies.{version_numbered}

-- the tree that was read, if one was
abbrev pub tree_of : {E : Type 0} → Result (BTreeMap (String Global) Value) E → Option Members
tree_of (Ok tree) = Some (table_view tree)
tree_of (Err error) = None

-- the number, from 1, of the question that has the fault, if it is that of one
abbrev pub question_of : Fault → Option ℕ
question_of (faults.Key question) = Some question
question_of (faults.Range question) = Some question
question_of (faults.Actions question) = Some question
question_of (faults.Name question) = Some question
question_of (faults.Mask question) = Some question
question_of _ = None

-- the values of an array, none where there is none
abbrev pub items_of : Option Data → List Data
items_of (Some (array ds)) = item_list ds
items_of _ = []

-- the values of a tree's array of questions
abbrev pub items_in : Members → List Data
items_in ms = items_of (get_member (codes "question") ms)

-- the value with this number, from 1
abbrev pub value_numbered : List Data → ℕ → Option Data
value_numbered ds zero = None
value_numbered ds (suc place) = slice_get ds place

-- the table of the question with this number, from 1
abbrev pub table_numbered : Members → ℕ → Option Members
table_numbered ms number = option_and_then as_table (value_numbered (items_in ms) number)

-- the table of the question that has the fault; the whole tree, where that is no question's
abbrev pub table_where : Option ℕ → Members → Option Members
table_where (Some number) ms = table_numbered ms number
table_where None ms = Some ms

-- the name of the question that has the fault
abbrev pub name_where : Option ℕ → Members → Option (List ℕ)
name_where (Some number) ms = option_and_then (text_at (codes "name")) (table_numbered ms number)
name_where None ms = None

-- a word with this entry has the fault
abbrev pub is_at_fault : Fault → Option WordEntry → Bool
is_at_fault fault None = true
is_at_fault (faults.Range question) (Some w) = not (has_range w)
is_at_fault (faults.Mask question) (Some w) = not (has_words w && has_mask w)
is_at_fault fault (Some w) = false

-- the first word of a question that has the fault
abbrev pub word_at_fault : Fault → Version → Members → Option (List ℕ)
word_at_fault fault version ms = find (λ key. is_at_fault fault (entry_at version (get_member key ms))) word_keys

-- the name has the fault
abbrev pub is_name_at_fault : Fault → Option (List ℕ) → Bool
is_name_at_fault (faults.Name question) name = true
is_name_at_fault fault name = is_none name

-- the first of name, words and actions that has the fault
abbrev pub known_key : Fault → Version → Members → List ℕ
known_key fault version ms =
    if is_name_at_fault fault (text_at (codes "name") ms) then codes "name"
    else unwrap_or (word_at_fault fault version ms) (codes "actions")

-- the key of a question that has the fault: an unknown one before the others
abbrev pub key_in_question : Fault → Version → Members → List ℕ
key_in_question fault version ms = unwrap_or (unknown_key question_keys ms) (known_key fault version ms)

-- the key at the top of a tree that has the fault
abbrev pub top_key : Fault → Members → List ℕ
top_key faults.Version ms = codes "version"
top_key fault ms = unwrap_or (unknown_key top_keys ms) (codes "question")

-- the key that has the fault: of a question, or at the top
abbrev pub key_where : Fault → Option Version → Option ℕ → Members → Option (List ℕ)
key_where fault (Some version) (Some number) ms =
    option_map (key_in_question fault version) (table_numbered ms number)
key_where fault _ _ ms = Some (top_key fault ms)

-- the key of a tree at which it is refused for the fault
abbrev pub key_of : Fault → Members → Option (List ℕ)
key_of fault ms = key_where fault (version_numbered (number_at (codes "version") ms)) (question_of fault) ms
