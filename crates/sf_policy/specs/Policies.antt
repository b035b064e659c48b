-- What a TOML tree means as a policy: its questions, or the first refusal.
use Rattle.std.specs.Prelude.{ℕ, ℤ, pos, ◌+◌, List, [], ◌∷◌, map, length, codes, ◌&&◌, not, nat_le, nat_eq, if◌then◌else◌, Option, Some, None, Result, Ok, Err}
use Rattle.sf_policy.specs.Common.{list_all, Data, array, Members, get_member, QuestionData, is_name, Fault, Version, One, Two, WordEntry}
use Rattle.sf_stack.specs.declared.fault.Fault.TheVariants as faults
use Rattle.sf_policy.specs.Keys.{word_keys, question_keys, top_keys, has_only}
use Rattle.sf_policy.specs.Trees.{each_of, tables_of, number_at, text_at}
use Rattle.sf_policy.specs.Words.{entry_at, has_range, has_mask, range_of, mask_of}
use Rattle.sf_policy.specs.Actions.{names_at, are_actions, actions_of}

-- what the table of a question says, each value of its kind
pub record Entry : Type 0 where
  pub name : List ℕ
  pub words : List WordEntry
  pub actions : List (List ℕ)

-- the entry of a question, where its name, words and actions could all be read
abbrev pub question_entry_of_parts : Option (List ℕ) → Option (List WordEntry) → Option (List (List ℕ)) → Option Entry
question_entry_of_parts (Some name) (Some words) (Some actions) =
    Some (record { name = name; words = words; actions = actions })
question_entry_of_parts _ _ _ = None

-- what the table of a question says; nothing where a key is unknown, the name is missing, or a value is of another kind
abbrev pub entry_of_question : Version → Members → Option Entry
entry_of_question version ms =
    if has_only question_keys ms
    then question_entry_of_parts (text_at (codes "name") ms)
    (each_of (λ key. entry_at version (get_member key ms)) word_keys)
    (names_at (get_member (codes "actions") ms))
    else None

-- the question of an entry, or what is wrong with it: the name, then a range, then a mask, then the actions
abbrev pub question_of_entry : ℕ → Entry → Result QuestionData Fault
question_of_entry number e =
    if not (is_name e.name) then Err (faults.Name number)
    else if not (list_all has_range e.words) then Err (faults.Range number)
    else if not (list_all has_mask e.words) then Err (faults.Mask number)
    else if not (are_actions e.actions) then Err (faults.Actions number)
    else Ok (record {
      name = e.name;
      ranges = map range_of e.words;
      masks = map mask_of e.words;
      actions = actions_of e.actions;
    })

-- the question of an entry that was read; one that could not be read has a wrong key
abbrev pub question_where_read : ℕ → Option Entry → Result QuestionData Fault
question_where_read number (Some e) = question_of_entry number e
question_where_read number None = Err (faults.Key number)

-- the question of a table
abbrev pub question_of_table : Version → ℕ → Members → Result QuestionData Fault
question_of_table version number ms = question_where_read number (entry_of_question version ms)

-- a question before the others, or the first refusal among them
abbrev pub question_cons : Result QuestionData Fault → Result (List QuestionData) Fault
    → Result (List QuestionData) Fault
question_cons (Ok q) (Ok qs) = Ok (q ∷ qs)
question_cons (Ok q) (Err fault) = Err fault
question_cons (Err fault) _ = Err fault

-- the questions of tables in order, the first of them with this number
abbrev pub questions_from : Version → ℕ → List Members → Result (List QuestionData) Fault
questions_from version number [] = Ok []
questions_from version number (ms ∷ mss) =
    question_cons (question_of_table version number ms) (questions_from version (number + 1) mss)

-- 1 to 256 questions
abbrev pub questions_counted : Version → List Members → Result (List QuestionData) Fault
questions_counted version mss =
    if nat_le 1 (length mss) && nat_le (length mss) 256 then questions_from version 1 mss
    else Err faults.Count

-- the tables of an array; nothing where the value is of another kind, or an item is no table
abbrev pub tables_of_value : Data → Option (List Members)
tables_of_value (array ds) = tables_of ds
tables_of_value _ = None

-- the tables at the key `question`, none where it is absent
abbrev pub tables_at : Option Data → Option (List Members)
tables_at None = Some []
tables_at (Some d) = tables_of_value d

-- the questions of tables that were read; the key is wrong where they could not be read
abbrev pub questions_where_tables : Version → Option (List Members) → Result (List QuestionData) Fault
questions_where_tables version (Some mss) = questions_counted version mss
questions_where_tables version None = Err faults.TopKey

-- the version with this number, where there is one
abbrev pub version_numbered : Option ℤ → Option Version
version_numbered (Some (pos n)) = if nat_eq n 1 then Some One else if nat_eq n 2 then Some Two else None
version_numbered _ = None

-- the questions of a file of a known version without unknown keys; else it is refused
abbrev pub policy_where_version : Option Version → Members → Result (List QuestionData) Fault
policy_where_version (Some version) ms =
    if has_only top_keys ms then questions_where_tables version (tables_at (get_member (codes "question") ms))
    else Err faults.TopKey
policy_where_version None ms = Err faults.Version

-- the questions of a file, or its first refusal
abbrev pub policy_of : Members → Result (List QuestionData) Fault
policy_of ms = policy_where_version (version_numbered (number_at (codes "version") ms)) ms
