-- What a parse by the form of the command line reads of the words.
use Rattle.std.proofs.lemmas.Grind.{common_steps}
use Rattle.std.proofs.Common.{◌≡◌, ◌∙◌, ap, List, true, refl, subst, arith}
use Rattle.std.specs.Prelude.{Option, Some, None, option_map}
use Rattle.clap.specs.Words.{App, HasMatchesOf, Kinds, Text, fault_of, is_simple, is_simple_and_free, subcommand_rows_of}
use Rattle.clap.specs.declared.parser.matches.ArgMatches.{ArgMatches}
use Rattle.clap.proofs.OnLiterals.{clap_on_literals}
use Rattle.sf_command_line.specs.CommandLine.{command_line, errors_at, subcommand_at}

-- the form is one for which `clap`'s definitions say what a parse makes of the words
pub form_is_simple : is_simple command_line ≡ true
unfolding clap_on_literals command_line
form_is_simple = refl

-- the form is one for which they say which errors a parse gives
pub form_is_free : is_simple_and_free command_line ≡ true
unfolding clap_on_literals command_line
form_is_free = refl

-- the subcommand that a parse by the form found is the one that the words name
pub told_subcommand : (a : App) (words : List Text) (m : ArgMatches) → a ≡ command_line → HasMatchesOf a words m
    → subcommand_rows_of m ≡ subcommand_at words
unfolding subcommand_at
told_subcommand a words m is has = grind (arith, common_steps, form_is_simple)

-- what a parse by the form says of its errors holds of those that the words may give
pub told_errors : (P : Kinds → Type 0) (a : App) (words : List Text) → a ≡ command_line
    → (is_simple_and_free a ≡ true → P (fault_of a words)) → P (errors_at words)
unfolding errors_at
told_errors P a words is told = subst (λ (x : App). P (fault_of x words)) is
    (told (ap is_simple_and_free is ∙ form_is_free))

-- the two readings of one thing that may be absent, joined in a pair
pub joined : {X A B : Type 0} (f : X → A) (g : X → B) (o : Option X) (a : A) (b : B) → Some a ≡ option_map f o
    → Some b ≡ option_map (λ p. p.1) (option_map {U = A × B} (λ x. (f x, g x)) o)
    → option_map {U = A × B} (λ x. (f x, g x)) o ≡ Some (a, b)
joined f g None a b is_a is_b = cc
joined f g (Some x) a b is_a is_b = cc
