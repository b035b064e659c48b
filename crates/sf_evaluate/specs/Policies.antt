-- The policy files of an audit.
use Rattle.std.specs.Prelude.{◌≡◌, ◌⊎◌, ℕ, List, Option, Some, None, Ok, Err}
use Rattle.sf_evaluate.specs.Common.{Bor, flat_map, IsUtf8, Members, parse_document, QuestionData, Fault, Memory, Read, Syntax, policy_of}
use Rattle.sf_evaluate.specs.Files.{AreKnownBytes, HasPath, HasUnknown}
use Rattle.sf_evaluate.specs.Pairs.{Pairwise}

-- the bytes are a policy with these questions
abbrev pub IsPolicy : List ℕ → List QuestionData → Type 0
IsPolicy bytes asked = (tree : Members) × (parse_document bytes ≡ Some tree) × (policy_of tree ≡ Ok asked)

-- the file, whose bytes may be known, is a policy with these questions
abbrev pub IsPolicyFile : Option (List ℕ) → List QuestionData → Type 0
IsPolicyFile known asked = (bytes : List ℕ) × AreKnownBytes known bytes × IsPolicy bytes asked

-- Why the bytes are no policy: they are no UTF-8 or no TOML, or they break the rules of a policy.
abbrev pub RefusesPolicy : List ℕ → Fault → Type 0
RefusesPolicy bytes fault =
    ((fault ≡ Syntax) × ((IsUtf8 bytes → ⊥) ⊎ (parse_document bytes ≡ None)))
    ⊎ ((tree : Members) × (parse_document bytes ≡ Some tree) × (policy_of tree ≡ Err fault))

-- the file, whose bytes may be known, is no policy for this reason
abbrev pub RefusesPolicyFile : Option (List ℕ) → Fault → Type 0
RefusesPolicyFile known fault = (bytes : List ℕ) × AreKnownBytes known bytes × RefusesPolicy bytes fault

-- the questions of policies, one policy after the other
abbrev pub all_questions : List (List QuestionData) → List QuestionData
all_questions files = flat_map (λ (asked : List QuestionData). asked) files

-- the files at the paths are policies, and these are their questions, one policy after the other
pub record AreAsked (holds : List ℕ → Option (List ℕ)) (paths : List (Bor (List ℕ)))
    (questions : List QuestionData) : Type 0 where
  pub files : List (List QuestionData)
  pub read : Pairwise (λ path asked. IsPolicyFile (holds path.now) asked) paths files
  pub all : questions ≡ all_questions files

-- Why policy files are refused: one whose bytes aren't known can't be read; memory ran out; or one is no policy.
abbrev pub RefusesAsking : (List ℕ → Option (List ℕ)) → List (Bor (List ℕ)) → Fault → Type 0
RefusesAsking holds paths fault =
    ((fault ≡ Read) × HasUnknown holds paths) ⊎ (fault ≡ Memory)
    ⊎ HasPath paths (λ _ path. RefusesPolicyFile (holds path) fault)
