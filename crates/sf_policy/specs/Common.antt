-- The names from elsewhere that the specs of this crate use, passed on from one place. Declares nothing.
pub use Rattle.std.specs.BTreeMap.{BTreeMap}
pub use Rattle.std.specs.List.{after_last, before_first, filter, flat_map, list_all, list_any, slice_split}
pub use Rattle.std.specs.Str.{bytes_eq}
pub use Rattle.std.specs.Str.Lines.{lines}
pub use Rattle.sf_policy.specs.declared.policy.Version.{Version}
pub use Rattle.sf_policy.specs.declared.policy.Version.TheVariants.{One, Two}
pub use Rattle.sf_policy.specs.declared.policy.refusal.Refusal.{Refusal}
pub use Rattle.sf_policy.specs.declared.policy.words.WordEntry.{WordEntry}
pub use Rattle.sf_question.specs.QuestionData.{QuestionData}
pub use Rattle.sf_question.specs.Questions.{is_inside_mask, is_name, question_of}
pub use Rattle.sf_question.specs.declared.actions.ActionSet.{ActionSet}
pub use Rattle.sf_stack.specs.declared.fault.Fault.{Fault}
pub use Rattle.toml.specs.Data.{Data, Items, Members, array, as_integer, as_str, as_table, get_member, integer, item, member, no_items, no_members, table}
pub use Rattle.toml.specs.Parse.{parse_document}
pub use Rattle.toml.specs.View.{table_view}
pub use Rattle.toml.specs.declared.value.Value.{Value}
pub use Rattle.toml_parser.specs.Lexical.{equals, first, left_brace, left_bracket, line_feed, skip_ws}
pub use Rattle.toml_parser.specs.Strings.{Key, key}
