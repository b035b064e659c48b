-- The names from elsewhere that the proofs of this crate cite, passed on from one place. Declares nothing.
pub use Rattle.std.proofs.Common.{Bool, Bor, IsUtf8, List, [], ap, append-nil, append_assoc, ap₂, arith, chars, codes, encode_utf8, false, flat_map, length, refl, string_bytes, sym, take, true, ℕ, ◌&&◌, ◌++◌, ◌<◌, ◌^◌, ◌∙◌, ◌≡◌}
pub use Rattle.std.proofs.lemmas.Grind.{common_steps}
pub use Rattle.std.proofs.lemmas.List.{nil_from_length}
pub use Rattle.std.proofs.lemmas.Result.{IfOk-weaker}
pub use Rattle.std.proofs.lemmas.Str.{IsUtf8-past_char, chars-nil, chars_past_char}
pub use Rattle.std.specs.Prelude.{Err, None, Ok, Option, Result, Some, not, unwrap_or}
pub use Rattle.std.specs.Str.Iter.{chars_rest}
pub use Rattle.std.specs.Str.Parse.{ExplainsUnsignedError, HasUnsignedDigitsIfOk, ParsesUnsigned}
pub use Rattle.clap.proofs.WalkLemmas.{first_value-rows, one_text-rows}
pub use Rattle.clap.specs.Simple.{app_of_fields}
pub use Rattle.clap.specs.Words.{AddsArg, AddsSubcommand, App, ReadsOne, Rule, Text, app_of, found_of, new_app, one_of, one_text, rows_of, rule_of, with_rule, with_subcommand}
pub use Rattle.clap.specs.declared.builder.arg.Arg.{Arg}
pub use Rattle.clap.specs.declared.builder.command.Command.{Command}
pub use Rattle.clap.specs.declared.parser.matches.Found.{Found}
unfoldable pub use Rattle.sf_command_line.specs.CommandLine.{command_line}
pub use Rattle.sf_command_line.specs.Options.{IsOptionNumber}
pub use Rattle.sf_command_line.specs.Terminal.{numbered, shown, visible}
pub use Rattle.sf_command_line.specs.laws.OptionsLaws.{read_or}
