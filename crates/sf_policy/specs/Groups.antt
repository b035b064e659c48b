-- What a TOML tree means as a file of groups of questions.
use Rattle.std.specs.Prelude.{◌≡◌, ◌⊎◌, ℕ, ◌&&◌, nat_le, Bool, if◌then◌else◌, List, codes, Option, Some, None, option_and_then, Result, Ok, Err}
use Rattle.sf_policy.specs.Common.{list_all, Members, get_member, parse_document, Fault}
use Rattle.sf_stack.specs.declared.fault.Fault.TheVariants as faults
use Rattle.sf_policy.specs.Keys.{group_keys, groups_keys, has_only}
use Rattle.sf_policy.specs.Trees.{each_of, text_at}
use Rattle.sf_policy.specs.Actions.{texts_of_value}
use Rattle.sf_policy.specs.Policies.{tables_of_value}

-- a group: its title, and the names of its questions
pub record GroupData : Type 0 where
  pub title : List ℕ
  pub questions : List (List ℕ)

-- a blank, or another character of ASCII that is printed
abbrev pub is_title_byte : ℕ → Bool
is_title_byte b = nat_le 0x20 b && nat_le b 0x7E

-- the title of a group, where it has only such characters
abbrev pub title_of : Option (List ℕ) → Option (List ℕ)
title_of (Some text) = if list_all is_title_byte text then Some text else None
title_of None = None

-- the group whose parts were all read
abbrev pub group_of_parts : (name title why : Option (List ℕ)) → Option (List (List ℕ)) → Option GroupData
group_of_parts (Some name) (Some title) (Some why) (Some questions) =
    Some (record { title = title; questions = questions })
group_of_parts _ _ _ _ = None

-- the group of a table, which has just the four keys: three texts, and an array of texts
abbrev pub group_of : Members → Option GroupData
group_of ms =
    if has_only group_keys ms
    then group_of_parts (text_at (codes "name") ms) (title_of (text_at (codes "title") ms)) (text_at (codes "why") ms)
    (option_and_then texts_of_value (get_member (codes "questions") ms))
    else None

-- the groups of an array's tables
abbrev pub groups_of_tables : Option (List Members) → Option (List GroupData)
groups_of_tables tables = option_and_then (each_of group_of) tables

-- the groups of a tree: its tables at the key `group`, the only one
abbrev pub groups_of : Members → Option (List GroupData)
groups_of ms =
    if has_only groups_keys ms
    then groups_of_tables (option_and_then tables_of_value (get_member (codes "group") ms))
    else None

-- the groups that a text has, where it is a file of groups
abbrev pub groups_in : List ℕ → Option (List GroupData)
groups_in text = option_and_then groups_of (parse_document text)

-- the text is a file of groups, and these are they
abbrev pub AreGroups : List ℕ → List GroupData → Type 0
AreGroups text groups = groups_in text ≡ Some groups

-- what was read, seen by `view`, is what is due; nothing is due where it is refused, unless memory ran out
abbrev pub IsRead : {X Y : Type 0} → (X → Y) → Result X Fault → Option Y → Type 0
IsRead view (Ok x) due = due ≡ Some (view x)
IsRead view (Err fault) due = (fault ≡ faults.Memory) ⊎ ((fault ≡ faults.Syntax) × (due ≡ None))
