-- The names from elsewhere that the proofs of this crate cite, passed on from one place. Declares nothing.
pub use Rattle.std.proofs.Common.{Bool, List, Some, [], ap, append_assoc, arith, drop, get_or, inl, inr, length, map, refl, rules, slice_get, string_bytes, subst, sym, take, tests, ℕ, ◌++◌, ◌+◌, ◌<◌, ◌||◌, ◌∙◌, ◌∷◌, ◌≡◌, ◌≤◌, ◌⊎◌}
pub use Rattle.std.proofs.lemmas.Iterator.{YieldsList-from_slice}
pub use Rattle.std.proofs.lemmas.Iterator.Search.{any_from_yields_List}
pub use Rattle.std.proofs.lemmas.List.{drop_more, map-append, same_lists}
pub use Rattle.std.proofs.lemmas.Option.{get_or_from_slice_get, same_Some, slice_get-get_or, slice_get_within}
pub use Rattle.std.proofs.lemmas.Result.{IfErr-weaker, IfOk-weaker, on_ok_weaker}
pub use Rattle.std.specs.Prelude.{codes, if◌then◌else◌}
pub use Rattle.serde_json.specs.declared.value.Value.{Value}
pub use Rattle.sf_audit.specs.Common.{BookData, Data, Fault, Insn, IsFirstRefusal, QuestionData, RegionData, Reply, SpellStack, bytes_eq, count, counts_document, counts_line, counts_of, fields, list_any, list_of, null, path_length, sizes_document, string, view}
pub use Rattle.sf_ask.specs.Judging.{HasReply}
pub use Rattle.sf_ask.specs.OneResult.{HaveOneReply, IsWholeFringe}
pub use Rattle.sf_ask.specs.laws.OneResultLaws.{same_counts}
pub use Rattle.sf_audit.specs.Audits.{IsAudit, IsAuditOf, IsAuditRefusal, IsFoundOn, IsMiscounted, IsWrongCount}
pub use Rattle.sf_audit.specs.Documents.{TellingData, audit_document, control_documents, question_documents, region_document, region_documents, shown_expected, telling_data, totals_document}
pub use Rattle.sf_audit.specs.Expectations.{ExpectedData, control_lines, deviation_lines, has_unexpected}
pub use Rattle.sf_audit.specs.Outcomes.{Found}
pub use Rattle.sf_audit.specs.Reports.{letter, question_lines, region_line, region_lines, report_text, size_line, title_line, totals_line}
pub use Rattle.sf_audit.specs.Summaries.{SummaryData, body_text, broken_text, closed_titles, example_lines, names_of, next_words, rows_of, section_texts, summary_data, summary_text}
pub use Rattle.sf_book.specs.Unfoldings.{ExplorationsHaveOneResult}
pub use Rattle.sf_crew.specs.Sweeps.{AreRightReplies, IsRightReplyAt}
pub use Rattle.sf_stack.specs.laws.TextLaws.{added_three, made_of_four}
