-- Why what is read off the decision diagrams of a stack's answers is refused.
use Rattle.std.specs.Prelude.{◌≡◌, ◌⊎◌, ℕ, List, Option}
use Rattle.sf_command.specs.Common.{Bor, Fault, Memory, TooLarge, TooManyRows, Write, RefusesFiles}

-- writing or memory failed; or the diagrams would have more nodes than this
abbrev pub FailsAnyhow : ℕ → Fault → Type 0
FailsAnyhow nodes fault = (fault ≡ Write) ⊎ ((fault ≡ Memory) ⊎ (fault ≡ TooLarge nodes))

-- there would be too many rows, or it fails anyhow
abbrev pub FailsByRows : ℕ → Fault → Type 0
FailsByRows nodes fault = (fault ≡ TooManyRows) ⊎ FailsAnyhow nodes fault

-- why what is needed is refused: the files are, or it fails anyhow
abbrev pub RefusesStack : (holds : List ℕ → Option (List ℕ)) → (paths : List (Bor (List ℕ))) → ℕ → Fault → Type 0
RefusesStack holds paths nodes fault = RefusesFiles holds paths fault ⊎ FailsAnyhow nodes fault

-- why a list is refused: there would be too many rows, or its stack is refused
abbrev pub RefusesList : (holds : List ℕ → Option (List ℕ)) → (paths : List (Bor (List ℕ))) → ℕ → Fault → Type 0
RefusesList holds paths nodes fault = (fault ≡ TooManyRows) ⊎ RefusesStack holds paths nodes fault
