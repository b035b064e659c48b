-- Which words of the command line fit together.
use Rattle.std.specs.Prelude.{◌&&◌, Bool, true, if◌then◌else◌, List, codes}
use Rattle.sf_evaluate.specs.Common.{bytes_eq, Row, Text}
use Rattle.sf_evaluate.specs.Asking.{eval_words_fit}
use Rattle.sf_evaluate.specs.Expecting.{audit_words_fit}
use Rattle.sf_evaluate.specs.Profiles.{profile_words_fit}
use Rattle.sf_evaluate.specs.Wanted.{calls_fit, digest_fits, rows_fit}

-- the words behind the options of a subcommand, which has this name, are among those that the options take
abbrev pub words_fit_for : Text → List Row → Bool
words_fit_for name rows =
    if bytes_eq name (codes "profile") then profile_words_fit rows
    else if bytes_eq name (codes "list") then calls_fit rows && digest_fits rows
    else if bytes_eq name (codes "compare") then calls_fit rows && rows_fit rows
    else if bytes_eq name (codes "eval") then eval_words_fit rows
    else if bytes_eq name (codes "audit") then audit_words_fit rows
    else true
