-- The names from elsewhere that the specs of this crate use, passed on from one place. Declares nothing.
pub use Rattle.std.specs.Fmt.{decimal, digits, format_spec, padded_integral}
pub use Rattle.std.specs.List.{flat_map, list_all, list_any}
pub use Rattle.std.specs.Option.{is_some, option_map_or}
pub use Rattle.std.specs.Str.{bytes_eq}
pub use Rattle.hex.specs.Hex.{encode_lower}
pub use Rattle.serde_json.specs.Data.{Data, boolean, null, string}
pub use Rattle.sf_behaviour.specs.Answering.{IsBehaviour, answer_with}
pub use Rattle.sf_behaviour.specs.InputBits.{input_by, words_in_order}
pub use Rattle.sf_check.specs.declared.insn.Insn.{Insn}
pub use Rattle.sf_diagram.specs.Operations.{merged_of, pair_of}
pub use Rattle.sf_diagram.specs.Stores.{AreCanonical, tree_at}
pub use Rattle.sf_diagram.specs.Trees.{Bits, IsOrderedFrom, IsOrderedTree, IsReducedTree, Tree, value}
pub use Rattle.sf_insn.specs.declared.input.Input.{Input}
pub use Rattle.sf_json.specs.Documents.{answer_document, count, fields, list_of, with_field}
pub use Rattle.sf_names.specs.Names.{CallData, NamesData, names_between}
pub use Rattle.sf_parts.specs.Parts.{FormData, form_has}
pub use Rattle.sf_parts.specs.Rows.{ConditionData, RowData, rows_under}
pub use Rattle.sf_parts.specs.Words.{EndsBefore, behind, word_number}
pub use Rattle.sf_parts.specs.declared.form.Span.{Span}
pub use Rattle.sf_policy.specs.Keys.{word_keys}
pub use Rattle.sf_relations.specs.Numbers.{operation_of}
pub use Rattle.sf_relations.specs.Relations.{AreRelated}
pub use Rattle.sf_relations.specs.declared.relation.Relation.{Relation}
pub use Rattle.sf_rows.specs.declared.fault.Fault.{Fault}
pub use Rattle.sf_rows.specs.declared.fault.Fault.TheVariants.{Memory, Nodes, Rows}
pub use Rattle.sf_rows.specs.declared.subject.Subject.{Subject}
pub use Rattle.sf_rows.specs.declared.subject.Subject.TheVariants.{Change, Stack}
pub use Rattle.sf_rows.specs.declared.words.Style.{Style}
pub use Rattle.sf_rows.specs.declared.words.Style.TheVariants.{Arch, Call, Short}
pub use Rattle.sf_run.specs.Answers.{IsAnswer}
pub use Rattle.sf_run.specs.Machine.{returns_of}
pub use Rattle.sf_run.specs.declared.action.Answer.{Answer}
pub use Rattle.sf_stack.specs.Texts.{answer_words}
pub use Rattle.sha2.specs.Sha256.{sha256}
