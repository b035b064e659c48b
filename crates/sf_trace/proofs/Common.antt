-- The names from elsewhere that the proofs of this crate cite, passed on from one place. Declares nothing.
pub use Rattle.std.proofs.Common.{Bool, List, Some, [], ap, append-nil, append_assoc, arith, codes, drop, false, get_or, length, map, refl, slice_get, string_bytes, subst, suc, sym, take, true, zero, ℕ, ◌++◌, ◌+◌, ◌-◌, ◌<◌, ◌∙◌, ◌∷◌, ◌≡◌}
pub use Rattle.std.proofs.lemmas.Grind.{common_steps}
pub use Rattle.std.proofs.lemmas.List.{drop_all, drop_more, length_push, map-append}
pub use Rattle.std.proofs.lemmas.Option.{get_or_from_slice_get, same_Some, slice_get-get_or}
pub use Rattle.std.proofs.lemmas.Result.{on_ok_weaker}
pub use Rattle.std.specs.Prelude.{not, slice_index_or, ◌&&◌, ◌==◌, ◌||◌, ◌↔◌}
pub use Rattle.serde_json.specs.View.{view}
pub use Rattle.sf_trace.specs.Common.{CourseData, Data, Input, Insn, action_bits, action_number, action_of, action_text, data_bits, decimal, flat_map, walk_of}
pub use Rattle.sf_stack.specs.laws.TextLaws.{added_three, added_two}
pub use Rattle.sf_trace.specs.CheckDocuments.{IsFilterAt}
pub use Rattle.sf_trace.specs.Instructions.{AreInsnLines, insn_lines}
pub use Rattle.sf_trace.specs.Runs.{RunData, first_runs, runs_of}
pub use Rattle.sf_trace.specs.Texts.{AreFilterLines, IsCheckText, StandUnder, filter_line}
pub use Rattle.sf_trace.specs.TraceDocuments.{filter_document, shown_meeting}
pub use Rattle.sf_trace.specs.Traces.{call_text, compared_text, first_arguments, last_arguments, named_text, shown_line, stands_text, word_text}
unfoldable pub use Rattle.sf_trace.specs.Traces.{cause_text, walk_text}
