-- Files by their paths, and the stacks that filter files spell.
use Rattle.std.specs.Prelude.{◌≡◌, ◌⊎◌, ℕ, List, Option, Some, None, slice_get, take}
use Rattle.sf_evaluate.specs.Common.{Bor, Insn, Fault, Memory, Read, IsFirstRefusal, SpellStack, IsRefusalOfBoth}
use Rattle.sf_evaluate.specs.Pairs.{Pairwise}

-- the bytes that were read are the known ones, where any are known
abbrev pub AreKnownBytes : Option (List ℕ) → List ℕ → Type 0
AreKnownBytes None bytes = Unit {0}
AreKnownBytes (Some known) bytes = bytes ≡ known

-- the bytes are those of the files at the paths, path by path
abbrev pub AreRead : (List ℕ → Option (List ℕ)) → List (Bor (List ℕ)) → List (List ℕ) → Type 0
AreRead holds paths files = Pairwise (λ path file. AreKnownBytes (holds path.now) file) paths files

-- The files at the paths were read, and the first of them are kept: at most 65, one more than a stack may have.
pub record AreKeptFiles (holds : List ℕ → Option (List ℕ)) (paths : List (Bor (List ℕ)))
    (kept : List (List ℕ)) : Type 0 where
  pub files : List (List ℕ)
  pub read : AreRead holds paths files
  pub first : kept ≡ take 65 files

-- this holds of one of the paths, and of its place
pub record HasPath (paths : List (Bor (List ℕ))) (Holds : (place : ℕ) → (path : List ℕ) → Type 0) : Type 0 where
  pub place : ℕ
  pub path : Bor (List ℕ)
  pub at : slice_get paths place ≡ Some path
  pub why : Holds place path.now

-- the bytes of the file at one of the paths aren't known, so it may be that it can't be read
abbrev pub HasUnknown : (List ℕ → Option (List ℕ)) → List (Bor (List ℕ)) → Type 0
HasUnknown holds paths = HasPath paths (λ _ path. holds path ≡ None)

-- the files at the paths were read, and spell this stack
pub record HoldStack (holds : List ℕ → Option (List ℕ)) (paths : List (Bor (List ℕ))) (stack : List (List Insn))
    : Type 0 where
  pub files : List (List ℕ)
  pub read : AreRead holds paths files
  pub spelled : SpellStack files stack

-- Why the files at the paths are refused: one whose bytes aren't known can't be read; memory ran out, which can come at
-- any time; or all were read and make no lawful stack.
abbrev pub RefusesFiles : (List ℕ → Option (List ℕ)) → List (Bor (List ℕ)) → Fault → Type 0
RefusesFiles holds paths fault =
    ((fault ≡ Read) × HasUnknown holds paths) ⊎ (fault ≡ Memory)
    ⊎ ((files : List (List ℕ)) × AreRead holds paths files × IsFirstRefusal files fault)

-- why the files of two stacks are refused, in the same way
abbrev pub RefusesBoth : (holds : List ℕ → Option (List ℕ)) → (old new : List (Bor (List ℕ))) → Fault → Type 0
RefusesBoth holds old new fault =
    ((fault ≡ Read) × (HasUnknown holds old ⊎ HasUnknown holds new)) ⊎ (fault ≡ Memory)
    ⊎ ((olds news : List (List ℕ)) × AreRead holds old olds × AreRead holds new news × IsRefusalOfBoth olds news fault)
