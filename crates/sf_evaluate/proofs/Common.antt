-- The names from elsewhere that the proofs of this crate cite, passed on from one place. Declares nothing.
pub use Rattle.std.proofs.Common.{Bool, Bor, List, None, Option, Some, [], ap, append_assoc, ap₂, arith, codes, false, get_or, inl, inr, length, length-append, lit<, map, min, not, refl, rules, slice_get, string_bytes, subst, suc, sym, take, tests, true, true≢false, zero, ℕ, ◌&&◌, ◌++◌, ◌+◌, ◌-◌, ◌<◌, ◌∙◌, ◌∷◌, ◌≡◌, ◌≤◌, ◌⊎◌}
pub use Rattle.std.proofs.Math.Path.{fun_ext}
pub use Rattle.std.proofs.lemmas.Bool.{and_left, and_right}
pub use Rattle.std.proofs.lemmas.Grind.{common_steps}
pub use Rattle.std.proofs.lemmas.Iterator.Consumers.{YieldsList-at, YieldsList-from_filter, count_from_yields_List, map_from_collect}
pub use Rattle.std.proofs.lemmas.Iterator.Search.{find_from_yields_List}
pub use Rattle.std.proofs.lemmas.Iterator.Splits.{YieldsList-from_str_split}
pub use Rattle.std.proofs.lemmas.List.{flat_map_more, length-map, length-take, length_push, map-append, take-append-le, take_all, take_more}
pub use Rattle.std.proofs.lemmas.List.Elements.{All-push}
pub use Rattle.std.proofs.lemmas.List.Folds.{list_all-map}
pub use Rattle.std.proofs.lemmas.List.Sums.{length-filter}
pub use Rattle.std.proofs.lemmas.Option.{get_or_from_slice_get, same_Some, slice_get-get_or, slice_get_within}
pub use Rattle.std.proofs.lemmas.Result.{IfErr-weaker, IfOk-weaker, on_ok_weaker}
pub use Rattle.std.specs.Prelude.{Err, IfErr, IfOk, Ok, Result, if◌then◌else◌, is_ok, is_some, nat_lt, option_map, unwrap_or, ◌==◌}
pub use Rattle.clap.proofs.WalkLemmas.{first_value-rows, list_any-map}
pub use Rattle.clap.specs.Words.{Row, Text, first_of, found_of, one_of, rows_of}
pub use Rattle.serde_json.specs.View.{view}
pub use Rattle.serde_json.specs.declared.value.Value.{Value}
pub use Rattle.sf_evaluate.specs.Common.{AreSetsJoined, AreSetsUnfit, Data, Fault, FileRead, FileRole, Insn, IsFirstRefusal, IsRefusalOfBoth, Members, NamesData, Other, Policy, QuestionData, Settings, SpellStack, Strictest, X64, bytes_eq, comma_parts, flat_map, list_all, list_any, of_names, parse_document, policy_of, read_arguments, version_of}
pub use Rattle.sf_command_line.specs.Options.{ArePaths, IsSwitch, paths_of, text_of}
pub use Rattle.sf_command_line.specs.laws.OptionsLaws.{paths_found}
pub use Rattle.sf_evaluate.specs.Asking.{LacksName, is_given, is_nr_narrow, lacks_names, names_paths, numbers_fit}
pub use Rattle.sf_evaluate.specs.Expecting.{is_other_policy}
pub use Rattle.sf_evaluate.specs.Failures.{IsFile, IsGivenFile, NamesFailed}
pub use Rattle.sf_evaluate.specs.Faults.{IsOther, of_profile}
pub use Rattle.sf_evaluate.specs.Files.{AreKeptFiles, AreKnownBytes, AreRead, HasUnknown, HoldStack, RefusesBoth, RefusesFiles}
pub use Rattle.sf_evaluate.specs.Identity.{HasFiles, file_document}
pub use Rattle.sf_evaluate.specs.Names.{AreNamesFiles, AreNamesRead, CannotBeJoined, IsNamesFile, RefusesNaming, RefusesSetsAt, all_sets}
pub use Rattle.sf_evaluate.specs.Origins.{AreOriginsOf, HasOrigins, IsOrigin, PolicyData}
pub use Rattle.sf_evaluate.specs.Pairs.{Pairwise}
pub use Rattle.sf_evaluate.specs.Policies.{AreAsked, IsPolicyFile, RefusesAsking, RefusesPolicyFile}
pub use Rattle.sf_evaluate.specs.Profiles.{AreCallsOf, AreSettings, HasOtherSet, IsReadFor, RefusesProfile, RefusesProfileOf, WritesOf, WritesProfile, have_sets, is_capability, machine_named, profile_words_fit, reading_named}
pub use Rattle.sf_evaluate.specs.Wanted.{is_known_call, is_wanted_once, names_in_text}
pub use Rattle.sf_evaluate.specs.laws.FilesLaws.{handed_on}
pub use Rattle.sf_names.specs.laws.JoinedLaws.{joined_append, unfit_append}
pub use Rattle.sf_policy.specs.Faults.{IsDue, without_place}
pub use Rattle.sf_profile.specs.declared.fault.Fault.TheVariants.{Memory}
pub use Rattle.sf_stack.specs.declared.fault.Fault.TheVariants.{Input, UnknownName}
pub use Rattle.sf_stack.specs.laws.FiltersLaws.{as_many}
