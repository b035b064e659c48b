-- What `compare` reads and writes.
use Rattle.std.specs.Prelude.{◌≡◌, ◌⊎◌, ℕ, Bool, true, false, List, Option}
use Rattle.sf_command.specs.Common.{Bor, Appends, Data, Fault, NamesData, document_line, Relation, Compared, IsComparison, comparison_text, finding_of, comparison_document, AreChanges, ChangedData, changed_document, changed_text, HoldStack, RefusesBoth, HasBothFiles, identified, Old, New}
use Rattle.sf_command.specs.Diagrams.{FailsByRows}
use Rattle.sf_command.specs.Status.{finding_status}

-- a comparison: its text; or one JSON document, with the line of this version and these documents of files
abbrev pub comparison_output : (json : Bool) → (version : List ℕ) → (files : List Data) → List NamesData → Compared
    → List ℕ
comparison_output false version files sets found = comparison_text found
comparison_output true version files sets found =
    document_line (identified version files (comparison_document sets found))

-- a comparison with the rows of what changes, in the same way
abbrev pub changed_output : (json : Bool) → (version : List ℕ) → (files : List Data) → List NamesData → Compared
    → ChangedData → List ℕ
changed_output false version files sets found x = changed_text sets found x
changed_output true version files sets found x =
    document_line (identified version files (changed_document sets found x))

-- which rows of what changes are asked for: those with a relation, or all; and those of which calls
pub record WantedData : Type 0 where
  pub only : Option Relation
  pub calls : Option (List (List ℕ))

-- what is written of a comparison, with these sets of calls: what is found, and where they are asked for the rows of
-- what changes
abbrev pub WritesCompared : (rows json : Bool) → (version : List ℕ) → (files : List Data) → List NamesData
    → WantedData → Compared → (old new : Option (List ℕ)) → Type 0
WritesCompared false json version files sets wanted found old new =
    Appends old new (comparison_output json version files sets found)
WritesCompared true json version files sets wanted found old new =
    (x : ChangedData) × (x.only ≡ wanted.only) × AreChanges found.old found.new sets wanted.calls x
    × Appends old new (changed_output json version files sets found x)

module _ (holds : List ℕ → Option (List ℕ)) (old_paths new_paths : List (Bor (List ℕ))) where
  -- `compare`: the files at the paths are read, their two stacks are compared, and what was found is written; the
  -- status is that of the relation that is asked for
  pub record ComparesFiles (version : List ℕ) (sets : List NamesData) (asked : Relation) (rows json : Bool)
      (wanted : WantedData) (status : ℕ) (old new : Option (List ℕ)) : Type 0 where
    pub found : Compared
    pub old_stack : HoldStack holds old_paths found.old
    pub new_stack : HoldStack holds new_paths found.new
    pub comparison : IsComparison found
    pub files : List Data
    pub told : HasBothFiles json holds Old New old_paths new_paths files
    pub written : WritesCompared rows json version files sets wanted found old new
    pub status_is : status ≡ finding_status (finding_of found.findings asked)

  -- why a comparison is refused: the files are; or there would be too many rows, or it fails anyhow
  abbrev pub RefusesComparison : ℕ → Fault → Type 0
  RefusesComparison nodes fault = RefusesBoth holds old_paths new_paths fault ⊎ FailsByRows nodes fault
