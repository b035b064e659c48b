-- Where the questions of policy files stand, as JSON.
use Rattle.std.specs.Prelude.{◌≡◌, ℕ, Bool, true, false, List, [], ◌∷◌, Option, All, codes, length}
use Rattle.sf_evaluate.specs.Common.{Bor, flat_map, Data, string, QuestionData, fields}
use Rattle.sf_evaluate.specs.Pairs.{Pairwise}
use Rattle.sf_evaluate.specs.Policies.{IsPolicyFile}

-- where a question stands: the path of its policy file, a line of it, and a comment above it
abbrev pub origin_document : (path : List ℕ) → (line comment : Data) → Data
origin_document path line comment =
    fields ((codes "comment", comment) ∷ (codes "line", line) ∷ (codes "policy", string path) ∷ [])

-- Where a question of the policy file at a path stands. On which line, and below which comment, is told for a person,
-- and isn't defined here: each is null where it isn't known.
abbrev pub IsOrigin : List ℕ → Data → Type 0
IsOrigin path d = (line comment : Data) × (d ≡ origin_document path line comment)

-- where so many questions of the policy file at a path stand
pub record AreOriginsOf (path : List ℕ) (count : ℕ) (origins : List Data) : Type 0 where
  pub many : length origins ≡ count
  pub each : All (IsOrigin path) origins

-- what is read of a policy file: its questions, and where each of them stands
pub record PolicyData : Type 0 where
  pub questions : List QuestionData
  pub origins : List Data

-- the file at a path is a policy with these questions, which stand there
pub record IsFileOf (holds : List ℕ → Option (List ℕ)) (path : Bor (List ℕ)) (file : PolicyData) : Type 0 where
  pub asked : IsPolicyFile (holds path.now) file.questions
  pub placed : AreOriginsOf path.now (length file.questions) file.origins

-- the files at the paths are policies with these questions, one policy after the other, and there each of them stands
pub record AreOrigins (holds : List ℕ → Option (List ℕ)) (paths : List (Bor (List ℕ)))
    (questions : List QuestionData) (origins : List Data) : Type 0 where
  pub files : List PolicyData
  pub read : Pairwise (IsFileOf holds) paths files
  pub all : questions ≡ flat_map (λ (file : PolicyData). file.questions) files
  pub places : origins ≡ flat_map (λ (file : PolicyData). file.origins) files

-- where the questions of the files at the paths stand, if this is asked for; else nothing
abbrev pub HasOrigins : (asked : Bool) → (List ℕ → Option (List ℕ)) → List (Bor (List ℕ)) → List QuestionData
    → List Data → Type 0
HasOrigins true holds paths questions origins = AreOrigins holds paths questions origins
HasOrigins false holds paths questions origins = origins ≡ []
