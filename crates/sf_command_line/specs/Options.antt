-- What is read of the options of a subcommand.
use Rattle.std.specs.Prelude.{◌≡◌, ◌<◌, ◌≤◌, ℕ, Bool, true, false, List, [], Option, Some, None, codes, map, unwrap_or}
use Rattle.std.specs.Borrow.{Bor}
use Rattle.std.specs.Str.Parse.{IsNumeral, digits_value, without_leading_plus}
use Rattle.clap.specs.Words.{Row, Text, all_of, first_of, one_of}

-- the text of an option; empty where it isn't given
abbrev pub text_of : Text → List Row → Text
text_of name rows = unwrap_or (first_of name rows) []

-- the paths that an argument names; none where it isn't given
abbrev pub paths_of : Text → List Row → List Text
paths_of name rows = unwrap_or (all_of name rows) []

-- The number that the text of an option spells, or the usual one where there is no text. The form lets only the texts
-- of numbers from 1 to the greatest through.
abbrev pub IsOptionNumber : Option Text → ℕ → ℕ → ℕ → Type 0
IsOptionNumber None greatest usual n = n ≡ usual
IsOptionNumber (Some text) greatest usual n =
    let digits = without_leading_plus text in
    IsNumeral 10 digits → 0 < digits_value 10 digits → digits_value 10 digits ≤ greatest → n ≡ digits_value 10 digits

-- the truth value says whether a switch is given
abbrev pub IsSwitch : Option Text → Bool → Type 0
IsSwitch text on = (text ≡ Some (codes "true") → on ≡ true) × (text ≡ Some (codes "false") → on ≡ false)

-- no explanation of errors is asked for: where a subcommand is named, its switch for that is off
abbrev pub IsUnasked : Option (Text × List Row) → Type 0
IsUnasked named =
    (found : Text × List Row) → named ≡ Some found → one_of (codes "explain-errors") found.1 ≡ Some (codes "false")

-- warnings are to be left out: a subcommand is named, and its switch for that is on
abbrev pub IsQuiet : Option (Text × List Row) → Type 0
IsQuiet named =
    (found : Text × List Row) × (named ≡ Some found) × (one_of (codes "quiet") found.1 ≡ Some (codes "true"))

-- these are the paths that an argument names
abbrev pub ArePaths : Text → List Row → List (Bor Text) → Type 0
ArePaths name rows paths = map (λ p. p.now) paths ≡ paths_of name rows
