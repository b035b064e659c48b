-- Files of names of calls.
use Rattle.std.specs.Prelude.{◌≡◌, ◌⊎◌, ◌+◌, ℕ, List, [], take, Option, Some, None, Ok, Err}
use Rattle.sf_evaluate.specs.Common.{Bor, flat_map, IsUtf8, Members, parse_document, HaveOrderedCalls, NamesData, sets_of_file, AreSetsJoined, AreSetsUnfit, Fault, Memory, Read, Syntax, of_names}
use Rattle.sf_names.specs.declared.fault.Fault.{Fault as NamesFault}
use Rattle.sf_evaluate.specs.Files.{AreKnownBytes, HasPath, HasUnknown}
use Rattle.sf_evaluate.specs.Pairs.{Pairwise}

-- what the bytes mean as a file of names: sets, with the calls of each by their numbers
pub record AreNames (bytes : List ℕ) (sets : List NamesData) : Type 0 where
  pub tree : Members
  pub parsed : parse_document bytes ≡ Some tree
  pub files : List NamesData
  pub meant : sets_of_file tree ≡ Ok files
  pub ordered : HaveOrderedCalls files sets

-- the file, whose bytes may be known, has these sets
abbrev pub IsNamesFile : Option (List ℕ) → List NamesData → Type 0
IsNamesFile known sets = (bytes : List ℕ) × AreKnownBytes known bytes × AreNames bytes sets

-- the files at the paths have these sets, path by path
abbrev pub AreNamesFiles : (List ℕ → Option (List ℕ)) → List (Bor (List ℕ)) → List (List NamesData) → Type 0
AreNamesFiles holds paths files = Pairwise (λ path sets. IsNamesFile (holds path.now) sets) paths files

-- the sets of files, one file after the other
abbrev pub all_sets : List (List NamesData) → List NamesData
all_sets files = flat_map (λ (sets : List NamesData). sets) files

-- the sets of the files at the paths, joined one after the other, are these
pub record AreNamesRead (holds : List ℕ → Option (List ℕ)) (paths : List (Bor (List ℕ)))
    (names : List NamesData) : Type 0 where
  pub files : List (List NamesData)
  pub read : AreNamesFiles holds paths files
  pub joined : AreSetsJoined [] (all_sets files) names

-- Why the bytes are no file of names: they are no UTF-8 or no TOML, or they break the rules of such a file.
abbrev pub RefusesNames : List ℕ → Fault → Type 0
RefusesNames bytes fault =
    ((fault ≡ Syntax) × ((IsUtf8 bytes → ⊥) ⊎ (parse_document bytes ≡ None)))
    ⊎ ((tree : Members) × (why : NamesFault) × (parse_document bytes ≡ Some tree) × (sets_of_file tree ≡ Err why)
    × (fault ≡ of_names why))

-- the file, whose bytes may be known, is no file of names for this reason
abbrev pub RefusesNamesFile : Option (List ℕ) → Fault → Type 0
RefusesNamesFile known fault = (bytes : List ℕ) × AreKnownBytes known bytes × RefusesNames bytes fault

-- The sets of the files at the first of the paths, one after the other, can't be joined for this reason.
pub record CannotBeJoined (holds : List ℕ → Option (List ℕ)) (paths : List (Bor (List ℕ))) (fault : Fault) : Type 0
  where
    pub count : ℕ
    pub files : List (List NamesData)
    pub read : AreNamesFiles holds (take count paths) files
    pub joined : List NamesData
    pub why : NamesFault
    pub unfit : AreSetsUnfit [] (all_sets files) joined why
    pub is : fault ≡ of_names why

-- the file at this place of the paths is no file of names, or its sets can't be joined to those before it
abbrev pub RefusesSetsAt : (List ℕ → Option (List ℕ)) → List (Bor (List ℕ)) → Fault → (place : ℕ) → (path : List ℕ)
    → Type 0
RefusesSetsAt holds paths fault place path =
    RefusesNamesFile (holds path) fault ⊎ ((unfit : CannotBeJoined holds paths fault) × (unfit.count ≡ place + 1))

-- Why files of names are refused: one whose bytes aren't known can't be read; memory ran out; one is no such file; or
-- a set can't be joined to those before it.
abbrev pub RefusesNaming : (List ℕ → Option (List ℕ)) → List (Bor (List ℕ)) → Fault → Type 0
RefusesNaming holds paths fault =
    ((fault ≡ Read) × HasUnknown holds paths) ⊎ (fault ≡ Memory)
    ⊎ HasPath paths (λ _ path. RefusesNamesFile (holds path) fault) ⊎ CannotBeJoined holds paths fault
