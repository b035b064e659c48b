-- Commands with one argument more.
use Rattle.sf_command_line.proofs.Common.{◌≡◌, ◌∙◌, ap, ap₂, false, true, Bor, AddsArg, AddsSubcommand, App, Rule, Text, app_of, rule_of, with_rule, with_subcommand, Arg, Command}
use Rattle.std.proofs.Common.{Option}
use Rattle.sf_command_line.proofs.CommandLineLemmas.{third_is_off}

-- an argument that makes a form longer by its rule
pub with_one : {old new : Command} {a : Arg} {form : App} {rule : Rule} → AddsArg old a new → app_of old ≡ form
    → a.global ≡ false → rule_of a ≡ rule → app_of new ≡ with_rule form rule
with_one adds so_far own is = adds.shape own ∙ ap₂ with_rule so_far is

-- the same of an argument that got a help text
pub with_help : {old new : Command} {b : Arg} {form : App} {rule : Rule} {help : Option (Bor Text)} (a : Arg)
    → AddsArg old b new → b ≡ record a { help = help } → app_of old ≡ form → a.global ≡ false → rule_of a ≡ rule
    → app_of new ≡ with_rule form rule
with_help a adds told so_far own is =
    with_one adds so_far (ap (λ (x : Arg). x.global) told ∙ own) (ap rule_of told ∙ is)

-- a form with one subcommand more
pub with_next : {old sub new : Command} {form part : App} → AddsSubcommand old sub new → app_of old ≡ form
    → app_of sub ≡ part → part.top.is_plain ≡ true → app_of new ≡ with_subcommand form part.top
with_next adds so_far is plain =
    adds.shape (third_is_off _ _ _ _ (ap (λ (a : App). a.top.is_plain) is ∙ plain))
    ∙ ap₂ with_subcommand so_far (ap (λ (a : App). a.top) is)
