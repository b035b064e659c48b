-- The names from elsewhere that the proofs of this crate cite, passed on from one place. Declares nothing.
pub use Rattle.std.proofs.Common.{Bool, List, None, Some, [], ap, append_assoc, ap₂, arith, drop, false, get_or, inl, inr, length, lit<, map, refl, rules, string_bytes, subst, suc, sym, take, true, zero, ℕ, ◌%◌, ◌*◌, ◌++◌, ◌+◌, ◌-◌, ◌/◌, ◌<◌, ◌==◌, ◌^◌, ◌∙◌, ◌∷◌, ◌≡◌, ◌≢◌, ◌≤◌}
pub use Rattle.std.proofs.Math.Bool.{or-false}
pub use Rattle.std.proofs.Math.Path.{fun_ext}
pub use Rattle.std.proofs.lemmas.Bool.{cases_eq, cases_lt, cond-false, cond-true, eq-eqb, eqb-true, ne_eqb, not-false}
pub use Rattle.std.proofs.lemmas.Bool.Decides.{nat_tests}
pub use Rattle.std.proofs.lemmas.List.{drop_more}
pub use Rattle.std.proofs.lemmas.List.Elements.{All-head, All-tail}
pub use Rattle.std.proofs.lemmas.List.Folds.{list_any_more}
pub use Rattle.std.proofs.lemmas.List.Sums.{get_or-le-sum_by}
pub use Rattle.std.proofs.lemmas.Nat.{mod_below, pow_pos}
pub use Rattle.std.proofs.lemmas.Nat.Bits.{bit_at-lt}
pub use Rattle.std.specs.Borrow.{Bor}
pub use Rattle.std.specs.Int.{bit_at}
pub use Rattle.std.specs.Prelude.{All, Contains, Option, codes, count_by, filter, if◌then◌else◌, not, slice_index, ◌&&◌, ◌||◌}
pub use Rattle.serde_json.specs.View.{view}
pub use Rattle.sf_rows.specs.Common.{Answer, EndsBefore, Input, Insn, Relation, Span, Subject, answer_with, behind, bytes_eq, fields, flat_map, form_has, list_all, list_any, list_of, merged_of, operation_of, pair_of, returns_of, string, word_number}
pub use Rattle.sf_behaviour.specs.InputBits.{input_bits, input_by, words_in_order}
pub use Rattle.sf_behaviour.specs.Words.{IsDiagramOf}
pub use Rattle.sf_diagram.specs.Choices.{IsChosen, chosen_of}
pub use Rattle.sf_diagram.specs.Stores.{KeepsStore, KeepsTrees, tree_at}
pub use Rattle.sf_diagram.specs.Trees.{Bits, Fork, HasValues, IsOrderedFrom, IsOrderedTree, IsReducedTree, Leaf, Tree, value}
pub use Rattle.sf_diagram.specs.laws.KeepLaws.{keeps_more}
pub use Rattle.sf_diagram.specs.laws.TreeLaws.{value_from}
pub use Rattle.sf_insn.specs.Inputs.{IsInput}
pub use Rattle.sf_names.specs.Names.{CallData, NamesData, name_between, names_between, names_in}
pub use Rattle.sf_parts.specs.Rows.{ConditionData, RowData, is_in_row, meets}
unfoldable pub use Rattle.sf_parts.specs.Words.{low_number}
pub use Rattle.sf_parts.specs.laws.WordLaws.{behind-below, behind-ordered, bit-if, low-more, low-small, ordered-weaker}
pub use Rattle.sf_relations.specs.laws.InputLaws.{same-input}
pub use Rattle.sf_relations.specs.laws.NumberLaws.{not-0-related, one-number, related-differ, related-not-0}
pub use Rattle.sf_rows.specs.Documents.{call_row_document, condition_document, range_document, row_document, with_answers}
pub use Rattle.sf_rows.specs.Lines.{call_row_line, condition_words, conditions_words, further, is_on, joined, row_line, row_names, span_words}
pub use Rattle.sf_rows.specs.Rows.{hidden_number, lies_in, rows_of, rows_of_call, tree_word}
pub use Rattle.sf_rows.specs.Shown.{AreOthers, CallRowData, IsShown, ShownData, call_row, rows_if_wanted}
pub use Rattle.sf_rows.specs.Trees.{AreAskedFor, IsAnswersTree, IsInputTree, IsTreeOf, change_number, is_call_number, is_named_call, unnamed_number}
pub use Rattle.sf_run.specs.Answers.{Answers}
pub use Rattle.sf_run.specs.laws.AnswerLaws.{one}
pub use denote.Shadow.{shadow}
pub use denote.Text.{Utf8}
