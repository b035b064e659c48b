-- The names from elsewhere that the specs of this crate use, passed on from one place. Declares nothing.
pub use Rattle.std.specs.Borrow.{Bor}
pub use Rattle.std.specs.Io.KnownBytes.{Appends}
pub use Rattle.std.specs.List.{flat_map, list_all, list_any}
pub use Rattle.std.specs.Option.{option_map_or}
pub use Rattle.std.specs.Result.{IfErr, IsErrAnd, result_ok}
pub use Rattle.std.specs.Str.{IsUtf8, bytes_eq, trim_end}
pub use Rattle.clap.specs.Words.{Row, Text, first_of, one_of}
pub use Rattle.hex.specs.Hex.{decode_sized, encode_lower}
pub use Rattle.serde_json.specs.Data.{Data, string}
pub use Rattle.sf_calls.specs.Calls.{call_input}
pub use Rattle.sf_calls.specs.Numbers.{are_arguments, comma_parts, is_number, read_arguments, read_number}
pub use Rattle.sf_check.specs.declared.insn.Insn.{Insn}
pub use Rattle.sf_command_line.specs.Options.{IsSwitch, paths_of, text_of}
pub use Rattle.sf_evaluate.specs.declared.checking.Manner.{Manner}
pub use Rattle.sf_evaluate.specs.declared.fault.Fault.TheVariants.{Other, Profile}
pub use Rattle.sf_evaluate.specs.declared.files.identity.FileRole.{FileRole}
pub use Rattle.sf_evaluate.specs.declared.files.identity.FileRole.TheVariants.{Accept, Control, Filter, Groups, Names, New, Old, Policy}
pub use Rattle.sf_evaluate.specs.declared.files.opened.FileRead.{FileRead}
pub use Rattle.sf_insn.specs.Inputs.{input_bytes}
pub use Rattle.sf_insn.specs.declared.input.Input.{Input}
pub use Rattle.sf_json.specs.Documents.{count, document_line, fields, list_of, with_field}
pub use Rattle.sf_names.specs.Joined.{AreSetsJoined, AreSetsUnfit}
pub use Rattle.sf_names.specs.Names.{HaveOrderedCalls, NamesData, has_set, is_call_name, number_of_call, sets_of_file}
pub use Rattle.sf_policy.specs.Accepted.{AreAccepted, IsMisfitAt}
pub use Rattle.sf_policy.specs.Groups.{AreGroups, GroupData, groups_in}
pub use Rattle.sf_policy.specs.Policies.{policy_of}
pub use Rattle.sf_profile.specs.Filters.{IsRefusedText, MakesFilterOf}
pub use Rattle.sf_profile.specs.Notes.{AreNotesOfText}
pub use Rattle.sf_profile.specs.Profiles.{version_of}
pub use Rattle.sf_profile.specs.Settings.{calls_of_names, set_of_names}
pub use Rattle.sf_profile.specs.declared.rules.CallSet.{CallSet}
pub use Rattle.sf_profile.specs.declared.rules.CallSet.TheVariants.{Aarch64, Arm, I386, X64}
pub use Rattle.sf_profile.specs.declared.rules.Reading.{Reading}
pub use Rattle.sf_profile.specs.declared.rules.Reading.TheVariants.{First, Mildest, Strictest}
pub use Rattle.sf_profile.specs.declared.settings.Calls.{Calls}
pub use Rattle.sf_profile.specs.declared.settings.Settings.{Settings}
pub use Rattle.sf_question.specs.QuestionData.{QuestionData}
pub use Rattle.sf_run.specs.Answers.{Answers}
pub use Rattle.sf_run.specs.declared.action.Answer.{Answer}
pub use Rattle.sf_stack.specs.Faults.{of_names}
pub use Rattle.sf_stack.specs.Filters.{IsFirstRefusal, SpellStack}
pub use Rattle.sf_stack.specs.TwoStacks.{IsRefusalOfBoth}
pub use Rattle.sf_stack.specs.declared.fault.Fault.{Fault}
pub use Rattle.sf_stack.specs.declared.fault.Fault.TheVariants.{Accepted, Memory, Read, Syntax, Write}
pub use Rattle.sf_trace.specs.CheckDocuments.{IsCheckDocument}
pub use Rattle.sf_trace.specs.Texts.{IsCheckText}
pub use Rattle.sf_trace.specs.TraceDocuments.{eval_document}
pub use Rattle.sf_trace.specs.Traces.{eval_text}
pub use Rattle.sha2.specs.Sha256.{sha256}
pub use Rattle.toml.specs.Data.{Members}
pub use Rattle.toml.specs.Parse.{parse_document}
