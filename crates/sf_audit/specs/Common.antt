-- The names from elsewhere that the specs of this crate use, passed on from one place. Declares nothing.
pub use Rattle.std.specs.Fmt.{decimal}
pub use Rattle.std.specs.List.{list_all, list_any}
pub use Rattle.std.specs.Str.{bytes_eq}
pub use Rattle.serde_json.specs.Data.{Data, boolean, null, string}
pub use Rattle.serde_json.specs.View.{view}
pub use Rattle.sf_ask.specs.declared.verdict.Reply.{Reply}
pub use Rattle.sf_ask.specs.declared.verdict.Reply.TheVariants.{Allowed, Never, Unsettled}
pub use Rattle.sf_audit.specs.declared.document.Telling.{Telling}
pub use Rattle.sf_audit.specs.declared.summary.Summary.{Summary}
pub use Rattle.sf_audit.specs.declared.summary.lists.Kind.{Kind}
pub use Rattle.sf_book.specs.Books.{BookData, RegionData, counts_of}
pub use Rattle.sf_calls.specs.Texts.{call_words}
pub use Rattle.sf_check.specs.Stacks.{IsPlain, path_length}
pub use Rattle.sf_check.specs.declared.insn.Insn.{Insn}
pub use Rattle.sf_crew.specs.Explorations.{IsExactExploration, IsExplorationOf}
pub use Rattle.sf_crew.specs.Sweeps.{AreRightReplies}
pub use Rattle.sf_json.specs.Documents.{answer_document, count, counts_document, fields, input_document, list_of, sizes_document, text_at}
pub use Rattle.sf_names.specs.Names.{NamesData}
pub use Rattle.sf_policy.specs.Actions.{is_text_among}
pub use Rattle.sf_policy.specs.Groups.{GroupData}
pub use Rattle.sf_question.specs.QuestionData.{QuestionData}
pub use Rattle.sf_stack.specs.Filters.{IsFirstRefusal, SpellStack}
pub use Rattle.sf_stack.specs.Texts.{action_text, counts_line, hex_text, line}
pub use Rattle.sf_stack.specs.declared.fault.Fault.{Fault}
