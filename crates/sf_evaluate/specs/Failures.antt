-- Which file failed, as the notes of a run name it.
use Rattle.std.specs.Prelude.{◌≡◌, ◌⊎◌, ◌+◌, ◌-◌, ◌<◌, ◌≤◌, ℕ, List, Option, Some, None, length, slice_get, string_bytes}
use Rattle.sf_evaluate.specs.Common.{Bor, Fault, Memory, Read, FileRole, Old, New, FileRead}
use Rattle.sf_evaluate.specs.Files.{HasPath}

-- the file that is named was read in this role, from this path
abbrev pub IsFile : FileRole → (path : List ℕ) → Option FileRead → Type 0
IsFile role path named =
    (file : FileRead) × (named ≡ Some file) × (file.role ≡ role) × (string_bytes file.path ≡ path)

-- the file that is named is the one that was given
abbrev pub IsGivenFile : FileRole → (given : Option (List ℕ)) → Option FileRead → Type 0
IsGivenFile role given named = (path : List ℕ) × (given ≡ Some path) × IsFile role path named

-- Memory ran out; or the file that is named is at one of these paths, and can't be read, or is refused for this reason.
abbrev pub NamesFailed : FileRole → (List ℕ → Option (List ℕ)) → List (Bor (List ℕ)) → Option FileRead
    → (Why : (place : ℕ) → (path : List ℕ) → Type 0) → Fault → Type 0
NamesFailed role holds paths named Why fault =
    (fault ≡ Memory)
    ⊎ HasPath paths (λ place path. IsFile role path named
    × (((fault ≡ Read) × (holds path ≡ None)) ⊎ Why place path))

-- the file that is named is that of the filter with this number, from 1; with the number 0, no file is named
pub record IsFilterAt (role : FileRole) (paths : List (Bor (List ℕ))) (number : ℕ) (named : Option FileRead) : Type 0
  where
    pub none : number ≡ 0 → named ≡ None
    pub one : (place : ℕ) (path : Bor (List ℕ)) → number ≡ place + 1 → slice_get paths place ≡ Some path
        → IsFile role path.now named

-- the same for the filters of two stacks, which are numbered together
abbrev pub IsFilterOfBoth : (old new : List (Bor (List ℕ))) → (number : ℕ) → Option FileRead → Type 0
IsFilterOfBoth old new number named =
    (number ≤ length old → IsFilterAt Old old number named)
    × (length old < number → IsFilterAt New new (number - length old) named)
