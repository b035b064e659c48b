-- The names from elsewhere that the proofs of this crate cite, passed on from one place. Declares nothing.
pub use Rattle.std.proofs.Common.{Bool, Bor, Err, List, None, Ok, Option, Result, Some, [], ap, arith, codes, drop, false, get_or, inl, inr, length, map, refl, string_bytes, subst, sym, take, true, ℕ, ◌++◌, ◌+◌, ◌<◌, ◌∙◌, ◌∷◌, ◌≡◌, ◌≢◌, ◌≤◌, ◌⊎◌}
pub use Rattle.std.proofs.Math.Path.{fun_ext}
pub use Rattle.std.proofs.lemmas.Grind.{common_steps}
pub use Rattle.std.proofs.lemmas.List.{map-append, map_push, take_more}
pub use Rattle.std.proofs.lemmas.Result.{IfErr-weaker, IfOk-weaker, on_ok_weaker}
pub use Rattle.std.specs.Prelude.{IfOk, if◌then◌else◌, nat_lt, ◌==◌}
pub use Rattle.clap.specs.Words.{HasKind, IsAmong, Kinds, Row, Text, found_of, kind_of, rows_of, subcommand_rows_of}
pub use Rattle.clap.specs.declared.error.Error.{Error}
pub use Rattle.clap.specs.declared.error.kind.ErrorKind.TheVariants.{DisplayVersion, OutOfMemory}
pub use Rattle.serde_json.specs.View.{view}
pub use Rattle.sf_command.specs.Common.{Appends, AreNamed, Compared, Count, Data, Example, Fault, Filter, HasFiles, HoldStack, Input, Insn, IsComparison, IsListing, IsWrongCount, LacksName, Listed, ListingForm, Looser, Memory, NamesData, Reply, TooLarge, TooManyRows, UnknownName, Write, are_known, calls_asked, finding_of, numbers_fit, profile_words_fit, words_fit_for}
pub use Rattle.sf_check.specs.Programs.{SpellsProgram}
pub use Rattle.sf_command.specs.Audits.{AreRemarks, AskedData, IsAskedBy, IsRefusedFor, IsRemark, ReadData, RefusesAudit, read_data, source_lines}
pub use Rattle.sf_command.specs.Listings.{ListsFiles, is_digest, is_json, listing_output}
pub use Rattle.sf_command.specs.Runs.{HasWrongWord, Helps, IsHelp, IsTooLarge, RefusesAs, RefusesAsAsked, RefusesWords, WritesText}
pub use Rattle.sf_command.specs.Subcommands.{OnCalls, RefusesEval, RunsAs}
pub use Rattle.sf_command_line.specs.CommandLine.{IsKnown, errors_at, subcommand_at}
pub use Rattle.sf_command_line.specs.Terminal.{visible}
pub use Rattle.sf_command_line.specs.laws.CommandLineLaws.{joined, told_errors, told_subcommand}
pub use Rattle.sf_command_line.specs.laws.OptionsLaws.{paths_found}
pub use Rattle.sf_command_line.specs.laws.SubcommandLaws.{known_subcommand}
pub use Rattle.sf_evaluate.specs.Faults.{fault_number}
pub use Rattle.sf_evaluate.specs.Status.{fault_status}
pub use Rattle.sf_evaluate.specs.declared.fault.Fault.TheVariants.{Other, Profile}
pub use Rattle.sf_evaluate.specs.laws.FilesLaws.{handed_on}
pub use Rattle.sf_insn.specs.Inputs.{IsInput}
pub use Rattle.sf_profile.specs.Data.{PlanData}
pub use Rattle.sf_profile.specs.Filters.{IsFilterOf}
pub use Rattle.sf_profile.specs.Meaning.{meaning}
pub use Rattle.sf_relations.specs.Changes.{IsFinding, IsUnchanged}
pub use Rattle.sf_relations.specs.Relations.{AreRelated}
pub use Rattle.sf_run.specs.Answers.{Answers}
pub use Rattle.sf_run.specs.declared.action.Answer.{Answer}
pub use Rattle.sf_stack.specs.Filters.{SpellPrograms, SpellStack}
