-- The names from elsewhere that the proofs of this crate cite, passed on from one place. Declares nothing.
pub use Rattle.std.proofs.Common.{Bool, Bor, Err, Global, List, None, Ok, Option, Result, Some, String, [], ap, append_assoc, ap₂, arith, codes, cond, drop, false, find, get_or, if◌then◌else◌, inl, inr, is_some, length, lit<, map, nat_le, not, option_map, refl, rules, set, string_bytes, sym, take, tests, true, unwrap_or, ℕ, ◌&&◌, ◌++◌, ◌+◌, ◌<◌, ◌||◌, ◌∙◌, ◌∷◌, ◌≡◌, ◌≤◌, ◌⊎◌}
pub use Rattle.std.proofs.Math.Dec.{eqb-suc-zero}
pub use Rattle.std.proofs.lemmas.Bool.{and_parts, false≢true}
pub use Rattle.std.proofs.lemmas.Grind.{common_steps, take-set_at}
pub use Rattle.std.proofs.lemmas.Iterator.Consumers.{YieldsList-at, YieldsList-from_filter, map_from_collect}
pub use Rattle.std.proofs.lemmas.Iterator.Search.{YieldsList-from_take_while}
pub use Rattle.std.proofs.lemmas.Iterator.Splits.{YieldsList-from_lines, YieldsList-from_str_split}
pub use Rattle.std.proofs.lemmas.List.{drop_more, get_or-map, length-map, take-map}
pub use Rattle.std.proofs.lemmas.List.Folds.{list_all-map}
pub use Rattle.std.specs.Map.{keys_of}
pub use Rattle.std.specs.Prelude.{HoldsAt, MatchOption, slice_get, suc, zero, ◌-◌, ◌==◌}
pub use Rattle.std.specs.Slice.{IsItemAt}
pub use Rattle.sf_policy.specs.Common.{ActionSet, Data, Fault, Members, QuestionData, Version, WordEntry, as_str, as_table, bytes_eq, flat_map, get_member, lines, list_all, list_any, no_members}
pub use Rattle.sf_policy.specs.Accepted.{IsMisfitAt, is_comment, is_name_once, line_fits, words_of_line}
pub use Rattle.sf_policy.specs.Actions.{actions_of, are_actions, is_action, is_text_among, names_at}
pub use Rattle.sf_policy.specs.Encoding.{encoded_set, no_actions, numbered_fault, question_of_parts, ranges_and_masks, table_or_empty, text_or_empty, with_number}
pub use Rattle.sf_policy.specs.Faults.{IsDue}
pub use Rattle.sf_policy.specs.Groups.{group_of}
pub use Rattle.sf_policy.specs.Keys.{has_only, question_keys, top_keys, unknown_key, word_keys}
pub use Rattle.sf_policy.specs.Policies.{Entry, entry_of_question, policy_of, policy_where_version, question_cons, question_entry_of_parts, question_of_entry, question_of_table, question_where_read, questions_from, questions_where_tables, tables_at, version_numbered}
pub use Rattle.sf_policy.specs.Refusals.{is_at_fault, value_numbered}
pub use Rattle.sf_policy.specs.Trees.{each_of, item_list, number_at, option_cons, tables_of, text_at, texts_of}
pub use Rattle.sf_policy.specs.Words.{entry_at, entry_of_array, has_mask, has_range, has_words, mask_of, range_of}
pub use Rattle.sf_question.specs.Actions.{is_no_action}
pub use Rattle.sf_question.specs.Questions.{is_in_order, is_inside_mask, is_name}
pub use Rattle.toml.specs.View.{items_view, members_view, table_view, view}
pub use Rattle.toml.specs.declared.value.Value.{Value}
