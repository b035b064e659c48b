-- The names from elsewhere that the proofs of this crate cite, passed on from one place. Declares nothing.
pub use Rattle.std.proofs.Common.{Bool, Bor, Err, Global, List, None, Ok, Option, Result, Some, String, [], ap, append-nil, append_assoc, arith, codes, cond, drop, false, fold, get_or, inl, inr, le-ltb, length, length-append, lit<, lt-ltb, map, max, option_map, refl, rules, slice_get, string_bytes, subst, suc, sym, take, tests, true, zero, ℕ, ◌%◌, ◌*◌, ◌++◌, ◌+◌, ◌-◌, ◌/◌, ◌<◌, ◌^◌, ◌∙◌, ◌∷◌, ◌≡◌, ◌≤◌, ◌⊎◌}
pub use Rattle.std.proofs.lemmas.Bool.{cases_lt}
pub use Rattle.std.proofs.lemmas.Bool.Decides.{nat_tests}
pub use Rattle.std.proofs.lemmas.Grind.{common_steps}
pub use Rattle.std.proofs.lemmas.Iterator.{YieldsList-from_chars, YieldsList-from_slice}
pub use Rattle.std.proofs.lemmas.Iterator.Consumers.{count_from_yields_List, nth_from_yields_List}
pub use Rattle.std.proofs.lemmas.Iterator.Search.{all_from_yields_List}
pub use Rattle.std.proofs.lemmas.Iterator.Splits.{YieldsList-from_str_split}
pub use Rattle.std.proofs.lemmas.List.{drop_more, length-map, map_push}
pub use Rattle.std.proofs.lemmas.List.Elements.{All-append, All-cons, All-head, All-map, All-nil, All-push, All-tail}
pub use Rattle.std.proofs.lemmas.List.Folds.{list_all-map}
pub use Rattle.std.proofs.lemmas.Nat.{and_block, and_le_r, and_mask}
pub use Rattle.std.proofs.lemmas.Option.{same_Some, slice_get-map}
pub use Rattle.std.proofs.lemmas.Result.{err_from_is_err_and}
pub use Rattle.std.specs.Bool.{MatchBool}
pub use Rattle.std.specs.Map.{keys_of}
pub use Rattle.std.specs.Prelude.{All, IfErr, IfOk, IfSome, IsSomeAnd, bit_and, filter, find, if◌then◌else◌, nat_le, nat_lt, not, option_and_then, replicate, slice_index, ◌&&◌, ◌==◌, ◌||◌}
pub use Rattle.indexmap.specs.IndexSet.{insert_key}
pub use Rattle.json.specs.Find.{get, get_member, later_or}
pub use Rattle.json.specs.Json.{Items, Json, Members, document, item, member, no_members}
pub use Rattle.json.specs.Tree.{HasNumbers, MembersHaveNumbers, depth, members_depth}
pub use Rattle.json.specs.Value.{items_view, value_view}
pub use Rattle.serde_json.specs.View.{members_view, view}
pub use Rattle.serde_json.specs.declared.value.Value.{Value}
pub use Rattle.sf_profile.specs.Common.{Allow, Answer, Argument, Branch, Call, CallSet, Comparing, Comparison, Data, Equal, Errno, Fault, Greater, GreaterOrEqual, HasUniqueKeys, Input, Insn, Instruction, IsInput, IsUtf8, Less, LessOrEqual, Load, Mask, MaskedEqual, Mildest, NotEqual, RawInsn, Reading, Response, Return, Settings, Skip, Strictest, Test, bytes_eq, flat_map, is_call_name, list_all, list_any, read, to_ascii_lowercase, zip}
pub use Rattle.sf_check.specs.Codes.{word_at}
pub use Rattle.sf_check.specs.Insns.{IsInRange, IsReturn, loaded_by, targets}
pub use Rattle.sf_check.specs.Programs.{AllBelow, IsAt, IsLawfulProgram, Spells}
pub use Rattle.sf_check.specs.Stacks.{IsPlain, IsPlainInsn}
pub use Rattle.sf_check.specs.declared.insn.Operand.TheVariants.{Constant}
pub use Rattle.sf_check.specs.declared.read.Unreadable.{Unreadable}
pub use Rattle.sf_insn.specs.Spelling.{AreInsns, IsInsn, spelling}
pub use Rattle.sf_insn.specs.Words.{passes}
pub use Rattle.sf_insn.specs.declared.ops.BinOp.TheVariants.{And}
pub use Rattle.sf_profile.specs.Cautions.{AnswerZero}
pub use Rattle.sf_profile.specs.Configs.{folded, is_clear, is_taken_for}
pub use Rattle.sf_profile.specs.Data.{PlanData, ProfileData, ProfileRuleData, RuleData, SetRulesData}
pub use Rattle.sf_profile.specs.Errors.{is_name, name_from}
unfoldable pub use Rattle.sf_profile.specs.Errors.{error_names}
pub use Rattle.sf_profile.specs.Filters.{HasNoMask, HasNoTree, IsFilterOf, IsInText, IsRefusedText, IsTooLong, IsTree, IsUnmasked, read_file}
pub use Rattle.sf_profile.specs.Form.{above_calls, above_rules, body_code, call_code, comparing_code, comparison_code, comparisons_code, direct_code, equal_code, fits, form, form_bytes, high, is_short, low, masked_code, newer_code, newer_where, operation_code, order_code, part_code, places, raw_of, return_code, returned_value_of, round_code, rule_at, rule_code, set_code, through_code}
pub use Rattle.sf_profile.specs.Known.{is_nowhere, is_somewhere}
pub use Rattle.sf_profile.specs.Limits.{calls_left, size_of_rule}
pub use Rattle.sf_profile.specs.Meaning.{answer_of_response, argument_in, compares, cut, holds, is_call, is_newer, is_of_set, is_operation, is_wide, meaning, number_in, order, pick, preferred, refuses_newer, response_in, response_of, response_of_part, says, strictness, word_of}
pub use Rattle.sf_profile.specs.Notes.{name_word, names_where, notes_text, set_words, unknown_line}
unfoldable pub use Rattle.sf_profile.specs.Notes.{with_name}
pub use Rattle.sf_profile.specs.Plans.{alternatives, calls_named, compares_twice, place_from, plan_of, rule_with, rules_of, rules_of_set}
pub use Rattle.sf_profile.specs.Profiles.{version_step}
pub use Rattle.sf_profile.specs.Reads.{and_then, is_excluded, is_included, is_map_item, item_sets, read_comparison, read_rule, read_rules, read_sets, with_flaw, with_named}
unfoldable pub use Rattle.sf_profile.specs.Reads.{read_of}
pub use Rattle.sf_profile.specs.Repeats.{AreReadBack, IsFaultOfRepeat, IsReadBack, items_where, last_at, last_rules, profile_below, unless_null}
pub use Rattle.sf_profile.specs.Settings.{has_calls, is_unknown}
pub use Rattle.sf_profile.specs.Trees.{all_keys, at, is_object_of, is_object_with, items_in, listed, text_in}
pub use Rattle.sf_run.specs.Answers.{Answers, IsAnswer, action_number, folded_answer, rank}
pub use Rattle.sf_run.specs.Machine.{State, goes, insn_progress, return_of, run_for}
pub use Rattle.sf_run.specs.laws.AnswerLaws.{answer_more, answer_none}
pub use Rattle.sf_run.specs.laws.RunLaws.{option_map_some, run_ends, run_more, value_is}
