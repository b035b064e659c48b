-- The names from elsewhere that the proofs of this crate cite, passed on from one place. Declares nothing.
pub use Rattle.std.proofs.Common.{All, Any, Bool, Contains, Err, IfSome, IsSome, List, MatchBool, MatchOption, MatchResult, None, Ok, Option, Result, Some, [], ap, append-nil, append_assoc, arith, bit_and, bit_or, cond, count_by, drop, eq-eqb, false, get_or, if◌then◌else◌, inl, inr, is_some, length, length-append, length-drop, length-set, lt_of_not-le, map, max, min, not, refl, rules, set, slice_get, slice_index, subst, suc, sum_by, sym, true, true≢false, vec_len, w64, zero, ℕ, ⊎_elim, ◌%◌, ◌*◌, ◌++◌, ◌+◌, ◌-◌, ◌/◌, ◌<◌, ◌==◌, ◌^◌, ◌∙◌, ◌∷◌, ◌≡◌, ◌≢◌, ◌≤◌, ◌⊎◌}
pub use Rattle.std.proofs.Math.Seq.{map-set_same}
pub use Rattle.std.proofs.lemmas.Bool.{eqb-true, ltb-false}
pub use Rattle.std.proofs.lemmas.Bool.Decides.{nat_tests}
pub use Rattle.std.proofs.lemmas.Grind.{common_steps}
pub use Rattle.std.proofs.lemmas.List.{drop-append-le, get_or-append-add, get_or-replicate, get_or-set_other, get_or-set_same, length-map, map-append, map-set, nil_from_length, same_from_push, set-get_or}
pub use Rattle.std.proofs.lemmas.List.Elements.{All-append, All-cons, All-head, All-map, All-nil, All-pop, All-push, All-same, All-tail, All-weaker}
pub use Rattle.std.proofs.lemmas.List.Sums.{sum_by-append, sum_by-cons, sum_by_push}
pub use Rattle.std.proofs.lemmas.Nat.Bits.{bit_at-lt, bit_at-trailing_zeros, bit_at-zero, bit_at_clear_other, bit_at_ones, bit_at_set_other, bit_at_set_same}
pub use Rattle.std.proofs.lemmas.Option.{get_or_from_slice_get, gets, same_Some, slice_get-get_or, slice_get-map, slice_get_cases, slice_get_past, slice_get_read, slice_get_within, some_pair_parts}
pub use Rattle.std.proofs.lemmas.Result.{err_from_is_err_and}
pub use Rattle.std.specs.Int.{bit_at, bit_not, trailing_zeros}
pub use Rattle.std.specs.Mem.Slots.{slots_items}
pub use Rattle.atomic_table.proofs.Lists.{at_set, set_again, set_else, set_here}
pub use Rattle.atomic_table.specs.Table.{Allows, Joins, Me, Splits, State, keeps}
pub use Rattle.crossbeam_deque.proofs.Phases.{at_lt}
pub use Rattle.crossbeam_deque.proofs.Shelves.{last_of_some}
pub use Rattle.crossbeam_deque.specs.Steals.{MatchSteal}
pub use Rattle.crossbeam_deque.specs.Tasks.{Finds, FindsFew, Forks, Learns, Merges, Pushes, Takes}
pub use Rattle.crossbeam_deque.specs.declared.steal.Steal.{Steal}
pub use Rattle.crossbeam_deque.specs.declared.steal.Steal.TheVariants.{Retry, Success}
pub use Rattle.sf_crew.specs.Common.{Allowed, BoardKey, Empty, End, EnteredSheet, Event, Got, HandleView, HasVerdictAt, Input, Insn, IsFringe, IsPlain, Lease, Never, Note, PieceData, Put, QuestionData, Reply, Settled, Split, StepData, Tally, Thief, Unsettled, Verdict, View, WorkData, arc_value, bit_of, children_of, option_map}
pub use Rattle.sf_ask.specs.OneResult.{HaveOneVerdict}
pub use Rattle.sf_ask.specs.Sheets.{HasHit, IsRightOn, IsRightSheet, IsRightWhereGiven, SheetData, is_doubt, is_hit, is_skipped}
pub use Rattle.sf_ask.specs.Verdicts.{IsRightVerdict, TellsTriedAt}
pub use Rattle.sf_ask.specs.declared.verdict.Verdict.TheVariants.{Clear, Doubt, Hit}
pub use Rattle.sf_ask.specs.laws.MemberLaws.{in_some_region}
pub use Rattle.sf_ask.specs.laws.OneResultLaws.{one_verdict_at}
pub use Rattle.sf_ask.specs.laws.QuestionBitsLaws.{all-bits}
pub use Rattle.sf_ask.specs.laws.SheetLaws.{hit-given}
pub use Rattle.sf_book.specs.Books.{BookData, IsLawfulBook, IsOutstanding, IsSettled, OutstandingData}
pub use Rattle.sf_book.specs.Changes.{CommitsAs, Leases, MayCommit, Refuses, outstanding_at, with_lease, with_lease_at, without}
pub use Rattle.sf_book.specs.Exact.{HasMembers}
pub use Rattle.sf_book.specs.PlainBooks.{IsPlainWhereStackIs}
pub use Rattle.sf_book.specs.declared.fault.Fault.{Fault}
pub use Rattle.sf_book.specs.declared.fault.Fault.TheVariants.{Foreign, Memory, Spent, Stale}
pub use Rattle.sf_book.specs.laws.ChangesLaws.{all_at, leased_at}
pub use Rattle.sf_book.specs.laws.ExactLaws.{enough, worked_off}
pub use Rattle.sf_book.specs.laws.PlainLaws.{plain_has_members}
pub use Rattle.sf_crew.specs.BenchRule.{BenchKept, GetsAll, PutsAll, Sits, WereLeft, new_thief_view, owner_with_thief, spent_view}
pub use Rattle.sf_crew.specs.Benches.{AreThieves, IsOnBench, owner_view, thief_view}
pub use Rattle.sf_crew.specs.BoardRule.{BoardKept, Kept, Sound, doubts_in, least_in}
pub use Rattle.sf_crew.specs.BoardSteps.{Draws, HasAllJobs, Knows, Looks, first_view, idle_view, joined_view, kept_view, shared_view, view_of, view_with_job, view_with_mark, view_with_note, view_with_sheet, view_without_job, with_marks, with_notes}
pub use Rattle.sf_crew.specs.Boards.{IsNewSeat, IsSeatOf, about, board_id, seat_view}
pub use Rattle.sf_crew.specs.EnteredSheets.{AreDoubts, IsDoubt, IsSheetFor, MarksDoubts, NotesHits}
pub use Rattle.sf_crew.specs.Explorations.{IsExactExploration, IsExhausted, IsExplorationOf, IsFree, IsSameExploration, MayWork, TakesTurn}
pub use Rattle.sf_crew.specs.Gets.{IsAllKnown, IsSharedOut, getter}
pub use Rattle.sf_crew.specs.History.{AllGot, FitsEnd, GetsFirst, HasHistory, IsKnownFirst, IsLawfulFrom, IsLawfulHistory, IsWhole, KeepsHandles, first_left, getters, got_count, handle_end, handle_of, handle_view, new_view, numbers_of, own_number, put_items, view_after, view_of_both, with_own}
pub use Rattle.sf_crew.specs.LeastWords.{LeastIs}
pub use Rattle.sf_crew.specs.Sweeps.{HasDoubt, IsFullTally, IsReplyTo, IsRightReplyAt, IsUnbroken, IsWorked, SkipsOnlyIn}
pub use Rattle.sf_crew.specs.Tallies.{IsBelowLeast, IsCleared, RightTally}
pub use Rattle.sf_crew.specs.Views.{Covered, IsInDoubt, Noted, RightPlace, count_of_regions, doubt_at, entered_jobs, entered_sheet, has, has_doubt, jobs, note, once_below, owed_jobs, questions_of, regions_of, top}
pub use Rattle.sf_crew.specs.Workers.{GetsOne, PutsChildren, PutsOrNot, thief_views}
pub use Rattle.sf_crew.specs.declared.board.Seat.{Seat}
pub use Rattle.sf_piece.specs.OneExecution.{IsExecutionOne}
pub use Rattle.sf_run.specs.declared.counts.Counts.{Counts}
pub use lib.ListN.{get_elem?, length-replicate, replicate}
pub use mathlib.Core.Logic.{dite}
pub use mathlib.Core.Option.{some, some-injective, some-ne-none}
pub use native.Mathlib.Decide.{dec_le, ℕ_discrete}
