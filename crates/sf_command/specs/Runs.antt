-- What the program does, by the words of its command line.
use Rattle.std.specs.Prelude.{◌≡◌, ◌⊎◌, ℕ, Bool, false, if◌then◌else◌, List, [], ◌∷◌, ◌++◌, Option, Some, codes, drop}
use Rattle.sf_command.specs.Common.{bytes_eq, Appends, IsAmong, Row, Text, ErrorKind, DisplayHelp, DisplayVersion, Memory, TooLarge, TooManyRows, Write, errors_at, subcommand_at, IsOther, Other, RefusesProfile, words_fit_for}
use Rattle.sf_evaluate.specs.declared.fault.Fault.{Fault}
use Rattle.sf_command.specs.Subcommands.{RefusesOnStack, RunsAs}

-- a subcommand is named, and a word isn't one that its option takes
abbrev pub HasWrongWord : Option (Text × List Row) → Type 0
HasWrongWord named = (found : Text × List Row) × (named ≡ Some found) × (words_fit_for found.0 found.1 ≡ false)

-- the first word is `help`
abbrev pub begins_with_help : List Text → Bool
begins_with_help [] = false
begins_with_help (word ∷ words) = bytes_eq word (codes "help")

-- the words that are meant: `help`, and the name of a subcommand, asks for what `--help` behind this name asks for
abbrev pub meant_words : List Text → List Text
meant_words words = if begins_with_help words then drop 1 words ++ codes "--help" ∷ [] else words

-- the words are refused: they don't fit the form, or one isn't a word that its option takes
abbrev pub RefusesWords : List Text → Type 0
RefusesWords words = ¬ (errors_at words ≡ []) ⊎ HasWrongWord (subcommand_at words)

-- some text was written
abbrev pub WritesText : Option Text → Option Text → Type 0
WritesText old new = (text : Text) × Appends old new text

-- the error is the answer to a call for help, or for the version
abbrev pub IsHelp : ErrorKind → Type 0
IsHelp kind = (kind ≡ DisplayHelp) ⊎ (kind ≡ DisplayVersion)

-- the words ask for help or for the version, and some text was written: for the version this line
pub record Helps (version : Text) (words : List Text) (status : ℕ) (old new : Option Text) : Type 0 where
  pub kind : ErrorKind
  pub error : IsAmong kind (errors_at words)
  pub help : IsHelp kind
  pub status_is : status ≡ 0
  pub written : WritesText old new
  pub line : kind ≡ DisplayVersion → Appends old new version

-- What was done is what the words ask for: what their subcommand asks for, where they fit the form; or else help or the
-- version's line was written, which they ask for.
abbrev pub DoesAsAsked : Text → (Text → Option Text) → List Text → ℕ → Option Text → Option Text → Type 0
DoesAsAsked version holds words status old new =
    ((errors_at words ≡ []) × RunsAs version holds (subcommand_at words) status old new)
    ⊎ Helps version words status old new

-- why what the named subcommand asks for is refused
abbrev pub RefusesAs : (Text → Option Text) → Option (Text × List Row) → Fault → Type 0
RefusesAs holds named fault =
    IsOther (RefusesOnStack holds named) fault
    ⊎ ((found : Text × List Row) × (named ≡ Some found) × (found.0 ≡ codes "profile")
    × RefusesProfile holds found.1 fault)

-- Why what the words ask for is refused. Memory can run out at any time, and writing can fail even for help; the other
-- reasons come only where the words fit the form.
abbrev pub RefusesAsAsked : (Text → Option Text) → List Text → Fault → Type 0
RefusesAsAsked holds words fault =
    (fault ≡ Other Memory) ⊎ (fault ≡ Other Write)
    ⊎ ((errors_at words ≡ []) × RefusesAs holds (subcommand_at words) fault)

-- what the words ask for takes decision diagrams with more nodes than they allow, or with too many rows
abbrev pub IsTooLarge : (Text → Option Text) → List Text → Type 0
IsTooLarge holds words =
    ((nodes : ℕ) × RefusesAsAsked holds words (Other (TooLarge nodes)))
    ⊎ RefusesAsAsked holds words (Other TooManyRows)
