-- The names from elsewhere that the specs of this crate use, passed on from one place. Declares nothing.
pub use Rattle.std.specs.Char.{to_ascii_lowercase}
pub use Rattle.std.specs.Fmt.{decimal}
pub use Rattle.std.specs.List.{flat_map, list_all, list_any, range_with_len, slice_split, zip}
pub use Rattle.std.specs.Str.{IsUtf8, bytes_eq, chars}
pub use Rattle.json.specs.Find.{get, is_null}
pub use Rattle.json.specs.Json.{Items, Json, document, item, max_depth, no_items}
pub use Rattle.json.specs.Strict.{HasUniqueKeys}
pub use Rattle.json.specs.Tree.{HasNumbers, ItemsHaveNumbers, depth, items_depth}
pub use Rattle.serde_json.specs.Data.{Data, Members, array, member, no_members, object}
pub use Rattle.serde_json.specs.Find.{as_array, as_integer, as_null, as_number, as_str}
pub use Rattle.serde_json.specs.Read.{read}
pub use Rattle.sf_check.specs.Programs.{SpellsProgram}
pub use Rattle.sf_check.specs.Stacks.{IsPlain}
pub use Rattle.sf_check.specs.declared.insn.Insn.{Insn}
pub use Rattle.sf_insn.specs.Inputs.{IsInput}
pub use Rattle.sf_insn.specs.Spelling.{spelling}
pub use Rattle.sf_insn.specs.declared.input.Input.{Input}
pub use Rattle.sf_insn.specs.declared.ops.Test.{Test}
pub use Rattle.sf_insn.specs.declared.raw.RawInsn.{RawInsn}
pub use Rattle.sf_names.specs.Names.{NamesData, is_call_name, is_low_call, number_of_call}
pub use Rattle.sf_profile.specs.declared.fault.Fault.{Fault}
pub use Rattle.sf_profile.specs.declared.fault.Flaw.{Flaw}
pub use Rattle.sf_profile.specs.declared.instruction.Instruction.{Instruction}
pub use Rattle.sf_profile.specs.declared.instruction.Instruction.TheVariants.{Branch, Load, Mask, Return, Skip}
pub use Rattle.sf_profile.specs.declared.names.Version.{Version}
pub use Rattle.sf_profile.specs.declared.names.VersionRead.{VersionRead}
pub use Rattle.sf_profile.specs.declared.rules.Argument.{Argument}
pub use Rattle.sf_profile.specs.declared.rules.Argument.TheVariants.{Arg0, Arg1, Arg2, Arg3, Arg4, Arg5}
pub use Rattle.sf_profile.specs.declared.rules.Call.{Call}
pub use Rattle.sf_profile.specs.declared.rules.CallSet.{CallSet}
pub use Rattle.sf_profile.specs.declared.rules.CallSet.TheVariants.{Aarch64, Arm, I386, X32, X64}
pub use Rattle.sf_profile.specs.declared.rules.Comparing.{Comparing}
pub use Rattle.sf_profile.specs.declared.rules.Comparing.TheVariants.{Equal, Greater, GreaterOrEqual, Less, LessOrEqual, MaskedEqual, NotEqual}
pub use Rattle.sf_profile.specs.declared.rules.Comparison.{Comparison}
pub use Rattle.sf_profile.specs.declared.rules.Reading.{Reading}
pub use Rattle.sf_profile.specs.declared.rules.Reading.TheVariants.{First, Mildest, Strictest}
pub use Rattle.sf_profile.specs.declared.rules.Response.{Response}
pub use Rattle.sf_profile.specs.declared.rules.Response.TheVariants.{Allow, Errno, KillProcess, KillThread, Log, Notify, Tracer, Trap}
pub use Rattle.sf_profile.specs.declared.settings.Calls.{Calls}
pub use Rattle.sf_profile.specs.declared.settings.Settings.{Settings}
pub use Rattle.sf_run.specs.Answers.{Answers}
pub use Rattle.sf_run.specs.declared.action.Answer.{Answer}
