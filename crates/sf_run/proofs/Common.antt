-- The names from elsewhere that the proofs of this crate cite, passed on from one place. Declares nothing.
pub use Rattle.std.proofs.Common.{Bool, List, None, Option, Some, [], ap, append_assoc, arith, bit_and, get_or, length, map, refl, reverse, slice_get, subst, suc, sym, zero, ℕ, ◌++◌, ◌+◌, ◌-◌, ◌/◌, ◌<◌, ◌^◌, ◌∙◌, ◌∷◌, ◌≡◌, ◌≤◌}
pub use Rattle.std.proofs.lemmas.Grind.{common_steps}
pub use Rattle.std.proofs.lemmas.List.{append-nil}
pub use Rattle.std.proofs.lemmas.List.Concat.{flat_map-append}
pub use Rattle.std.proofs.lemmas.List.Elements.{All-append, All-cons, All-nil}
pub use Rattle.std.proofs.lemmas.Nat.Bits.{shr_and_one}
pub use Rattle.std.proofs.lemmas.Option.{same_Some, slice_get-get_or}
pub use Rattle.std.specs.Prelude.{All, slice_index, ◌==◌}
pub use Rattle.sf_run.specs.Common.{Alu, Answer, Branch, Constant, Div, Goes, Input, Insn, IsAt, IsInRange, IsLawfulProgram, LoadConstant, LoadLength, LoadScratch, LoadWord, LoadXScratch, Machine, Meeting, Negate, ReturnA, ReturnConstant, Returns, Txa, X, flat_map, loaded_by}
pub use Rattle.sf_run.specs.Answers.{IsAnswer}
pub use Rattle.sf_run.specs.Code.{Took, met_at, state_of}
pub use Rattle.sf_run.specs.Machine.{Progress, State, bits, goes, insn_progress, met_by, return_of, returns, start, step, stuck, with_a, with_x}
unfoldable pub use Rattle.sf_run.specs.Machine.{outcome_of, run_for}
pub use Rattle.sf_run.specs.Reachable.{IsReachable}
pub use Rattle.sf_run.specs.Walks.{CourseData, HoldsItsWord, after, course, meeting_at, meeting_in, onward, truths, word_after, word_behind}
unfoldable pub use Rattle.sf_run.specs.Walks.{walk_for, walk_of}
pub use Rattle.sf_run.specs.laws.AnswerLaws.{answer_more, one}
pub use Rattle.sf_run.specs.laws.FeasibleLaws.{feasible_are, one_list}
pub use Rattle.sf_run.specs.laws.InputLaws.{inputs_are}
pub use Rattle.sf_run.specs.laws.RouteLaws.{one_whole, route_is_short}
pub use Rattle.sf_run.specs.laws.RunLaws.{divided, lawful_ends, load_is_set, loaded, met_is, option_map_some, run_ends, run_more, safe_next, safe_start, step_is, value_is}
pub use Rattle.sf_run.specs.laws.TraceLaws.{trace_is_whole_route}
