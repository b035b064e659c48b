-- What `needed` reads and writes.
use Rattle.std.specs.Prelude.{◌≡◌, ℕ, Bool, true, false, List, Option}
use Rattle.sf_command.specs.Common.{Bor, Appends, Data, AreNeeds, NeedsData, needs_text, needs_document, document_line, HoldStack, HasFiles, identified, Filter}
use Rattle.sf_command.specs.Status.{needs_status}

-- what is told of filters: a text; or one JSON document, with the line of this version and these documents of files
abbrev pub needs_output : (json : Bool) → (version : List ℕ) → (files : List Data) → NeedsData → List ℕ
needs_output false version files needs = needs_text needs
needs_output true version files needs = document_line (identified version files (needs_document needs))

-- `needed`: the files at the paths are read, and what is found of their stack is written; the status tells of it
pub record TellsNeeds (version : List ℕ) (holds : List ℕ → Option (List ℕ)) (paths : List (Bor (List ℕ)))
    (json : Bool) (status : ℕ) (old new : Option (List ℕ)) : Type 0 where
  pub needs : NeedsData
  pub stack : HoldStack holds paths needs.stack
  pub found : AreNeeds needs
  pub files : List Data
  pub told : HasFiles json holds Filter paths files
  pub written : Appends old new (needs_output json version files needs)
  pub status_is : status ≡ needs_status needs.findings
