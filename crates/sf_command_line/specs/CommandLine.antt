-- The form of the command line, as `clap` reads it.
use Rattle.std.specs.Prelude.{◌≡◌, ◌⊎◌, ℕ, true, List, [], ◌∷◌, Option, Some, codes, pos}
use Rattle.clap.specs.Words.{App, Kinds, Row, Rule, Text, fault_of, new_app, new_rule, subcommand_of, with_subcommand}
use Rattle.clap.specs.Lexer.{usize_max}
use Rattle.clap.specs.declared.builder.action.ArgAction.TheVariants.{Append, SetTrue}
use Rattle.clap.specs.declared.builder.value_parser.ValueParser.TheVariants.{Signed}

-- an option `--name VALUE`
abbrev pub option_rule : Text → Rule
option_rule name = record (new_rule name) { long = Some name; value_names = 1 }

-- an option `--name VALUE` that must be given
abbrev pub needed_rule : Text → Rule
needed_rule name = record (option_rule name) { required = true }

-- an option `--name NUMBER`, with a number from 1 to the greatest; where it is left out, the usual text stands for it
abbrev pub number_rule : Text → ℕ → Text → Rule
number_rule name greatest usual = record (option_rule name) {
  parser = Some (Signed (pos 1) (pos greatest));
  defaults = usual ∷ [];
}

-- a switch `--name`
abbrev pub switch_rule : Text → Rule
switch_rule name = record (new_rule name) { long = Some name; action = Some SetTrue }

-- the filter files: one word or more, which belong to no option
abbrev pub filters_rule : Rule
filters_rule = record (new_rule (codes "filters")) {
  value_names = 1;
  required = true;
  range = Some (record { start_inclusive = 1; end_inclusive = usize_max });
  action = Some Append;
}

-- an option `--name FILE..` with one file or more that must be given
abbrev pub files_rule : Text → Rule
files_rule name = record (needed_rule name) {
  range = Some (record { start_inclusive = 1; end_inclusive = usize_max });
  action = Some Append;
}

-- a file that must be given, which belongs to no option
abbrev pub file_rule : Text → Rule
file_rule name = record (new_rule name) { value_names = 1; required = true }

-- an option `--name WORD`; where it is left out, the usual word stands for it
abbrev pub word_rule : Text → Text → Rule
word_rule name usual = record (option_rule name) { defaults = usual ∷ [] }

-- an option `--name FILE` that may be given more than once, with one value each time
abbrev pub repeated_rule : Text → Rule
repeated_rule name = record (option_rule name) { action = Some Append }

-- an option `--name FILE` that must be given, and may be given more than once, with one value each time
abbrev pub needed_repeated_rule : Text → Rule
needed_repeated_rule name = record (needed_rule name) { action = Some Append }

-- an option `--name` with a value or without one, which is then the empty text
abbrev pub choice_rule : Text → Rule
choice_rule name = record (option_rule name) {
  range = Some (record { start_inclusive = 0; end_inclusive = 1 });
  missing = [] ∷ [];
}

-- a subcommand with this name, which takes what the rules say
abbrev pub subcommand_form : Text → List Rule → App
subcommand_form name rules = let new = new_app name in record new { top = record new.top { rules = rules } }

-- `audit --policy FILE.. [--control FILE] [--accept FILE] [--budget N] [--workers N] [--regions] [--why] [--summary]
-- [--summary-all] [--groups FILE] [--names FILE].. [--json] [--progress] [--quiet] [--explain-errors] FILTER..`
abbrev pub audit_line : App
audit_line = subcommand_form (codes "audit") (
    needed_repeated_rule (codes "policy") ∷ option_rule (codes "control") ∷ option_rule (codes "accept")
    ∷ number_rule (codes "budget") 1000000 (codes "100000") ∷ number_rule (codes "workers") 64 (codes "4")
    ∷ switch_rule (codes "regions") ∷ switch_rule (codes "why") ∷ switch_rule (codes "summary")
    ∷ switch_rule (codes "summary-all") ∷ option_rule (codes "groups") ∷ repeated_rule (codes "names")
    ∷ switch_rule (codes "json") ∷ switch_rule (codes "progress") ∷ switch_rule (codes "quiet")
    ∷ switch_rule (codes "explain-errors") ∷ filters_rule ∷ [])

-- `check [--instructions] [--json] [--quiet] [--explain-errors] FILTER..`
abbrev pub check_line : App
check_line = subcommand_form (codes "check") (
    switch_rule (codes "instructions") ∷ switch_rule (codes "json") ∷ switch_rule (codes "quiet")
    ∷ switch_rule (codes "explain-errors") ∷ filters_rule ∷ [])

-- `eval [--input HEX] [--call NAME] [--nr N] [--arch SET] [--args A,..] [--trace] [--trace-true] [--names FILE]..
-- [--json] [--explain-errors] FILTER..`
abbrev pub eval_line : App
eval_line = subcommand_form (codes "eval") (
    option_rule (codes "input") ∷ option_rule (codes "call") ∷ option_rule (codes "nr") ∷ option_rule (codes "arch")
    ∷ option_rule (codes "args") ∷ switch_rule (codes "trace") ∷ switch_rule (codes "trace-true")
    ∷ repeated_rule (codes "names") ∷ switch_rule (codes "json") ∷ switch_rule (codes "explain-errors") ∷ filters_rule
    ∷ [])

-- `compare --old FILE.. --new FILE.. [--nodes N] [--same] [--rows] [--only RELATION] [--calls [NAME,..]]
-- [--names FILE].. [--json] [--quiet] [--explain-errors]`
abbrev pub compare_line : App
compare_line = subcommand_form (codes "compare") (
    files_rule (codes "old") ∷ files_rule (codes "new") ∷ number_rule (codes "nodes") 16000000 (codes "1000000")
    ∷ switch_rule (codes "same") ∷ switch_rule (codes "rows") ∷ option_rule (codes "only") ∷ choice_rule (codes "calls")
    ∷ repeated_rule (codes "names") ∷ switch_rule (codes "json") ∷ switch_rule (codes "quiet")
    ∷ switch_rule (codes "explain-errors") ∷ [])

-- `list [--nodes N] [--names FILE].. [--calls [NAME,..]] [--digest] [--json] [--quiet] [--explain-errors] FILTER..`
abbrev pub list_line : App
list_line = subcommand_form (codes "list") (
    number_rule (codes "nodes") 16000000 (codes "1000000") ∷ repeated_rule (codes "names") ∷ choice_rule (codes "calls")
    ∷ switch_rule (codes "digest") ∷ switch_rule (codes "json") ∷ switch_rule (codes "quiet")
    ∷ switch_rule (codes "explain-errors") ∷ filters_rule ∷ [])

-- `needed [--nodes N] [--json] [--quiet] [--explain-errors] FILTER..`
abbrev pub needed_line : App
needed_line = subcommand_form (codes "needed") (
    number_rule (codes "nodes") 16000000 (codes "1000000") ∷ switch_rule (codes "json") ∷ switch_rule (codes "quiet")
    ∷ switch_rule (codes "explain-errors") ∷ filters_rule ∷ [])

-- `profile --machine MACHINE [--names FILE].. [--cap NAME].. [--kernel X.Y] [--conflicts RULE] [--newer]
-- [--skip-unknown] [--notes] [--quiet] [--explain-errors] PROFILE`
abbrev pub profile_line : App
profile_line = subcommand_form (codes "profile") (
    needed_rule (codes "machine") ∷ repeated_rule (codes "names") ∷ repeated_rule (codes "cap")
    ∷ option_rule (codes "kernel") ∷ word_rule (codes "conflicts") (codes "strictest") ∷ switch_rule (codes "newer")
    ∷ switch_rule (codes "skip-unknown") ∷ switch_rule (codes "notes") ∷ switch_rule (codes "quiet")
    ∷ switch_rule (codes "explain-errors") ∷ file_rule (codes "profile") ∷ [])

-- The program without its subcommands: the words begin behind its name, one of them must be a subcommand, `help` is
-- none, and there is a version.
abbrev pub program_line : App
program_line = let new = new_app (codes "seccomp_audit") in record new {
  top = record new.top {
    no_binary_name = true;
    subcommand_required = true;
    has_version = true;
    disable_help_subcommand = true;
  };
}

-- the whole command line: the program with its seven subcommands
unfoldable pub command_line : App
command_line = with_subcommand (with_subcommand (with_subcommand (with_subcommand (with_subcommand (with_subcommand
    (with_subcommand program_line audit_line.top) check_line.top) eval_line.top) compare_line.top) list_line.top)
    needed_line.top) profile_line.top

-- the errors that `clap` may give for the words; none where the words fit the form
unfoldable pub errors_at : List Text → Kinds
errors_at words = fault_of command_line words

-- the subcommand that the words name, and the values of its arguments
unfoldable pub subcommand_at : List Text → Option (Text × List Row)
subcommand_at words = subcommand_of command_line words

-- one of the seven subcommands is named
abbrev pub IsKnown : Option (Text × List Row) → Type 0
IsKnown named =
    (found : Text × List Row) × (named ≡ Some found)
    × ((found.0 ≡ codes "audit") ⊎ (found.0 ≡ codes "check") ⊎ (found.0 ≡ codes "eval")
    ⊎ (found.0 ≡ codes "compare") ⊎ (found.0 ≡ codes "list") ⊎ (found.0 ≡ codes "needed")
    ⊎ (found.0 ≡ codes "profile"))
