-- The names from elsewhere that the specs of this crate use, passed on from one place. Declares nothing.
pub use Rattle.std.specs.Arc.{arc_value}
pub use Rattle.std.specs.Int.{bit_at}
pub use Rattle.std.specs.Option.{option_map}
pub use Rattle.atomic_table.specs.Seated.{TableId}
pub use Rattle.atomic_table.specs.Table.{State}
pub use Rattle.crossbeam_deque.specs.Handles.{stealer_deque, taken, view, worker_deque, worker_view}
pub use Rattle.sf_ask.specs.Judging.{HasNoHitAt, HasReply, HasVerdictAt}
pub use Rattle.sf_ask.specs.Probing.{AreProbesOf}
pub use Rattle.sf_ask.specs.QuestionBits.{bit_of}
pub use Rattle.sf_ask.specs.Sheets.{HasHit, IsRightOn, IsRightWhereGiven, SheetData, is_doubt, is_hit, is_skipped, verdict_at}
pub use Rattle.sf_ask.specs.Verdicts.{IsBreakAt, IsDoubtful, IsFirstBreak, IsLeastExample, IsLowInput, IsRightReply}
pub use Rattle.sf_ask.specs.declared.probe.Probes.{Probes}
pub use Rattle.sf_ask.specs.declared.verdict.Reply.{Reply}
pub use Rattle.sf_ask.specs.declared.verdict.Reply.TheVariants.{Allowed, Never, Unsettled}
pub use Rattle.sf_ask.specs.declared.verdict.Verdict.{Verdict}
pub use Rattle.sf_ask.specs.declared.verdict.Verdict.TheVariants.{Clear, Doubt}
pub use Rattle.sf_book.specs.Books.{BookData, IsSettled, OutstandingData}
pub use Rattle.sf_book.specs.Changes.{CommitsAs, MayCommit, outstanding_at, with_lease_at, without}
pub use Rattle.sf_book.specs.Exact.{IsWorkedOff}
pub use Rattle.sf_book.specs.Unfoldings.{IsFringe}
pub use Rattle.sf_book.specs.declared.book.Lease.{Lease}
pub use Rattle.sf_check.specs.Stacks.{IsPlain}
pub use Rattle.sf_check.specs.declared.insn.Insn.{Insn}
pub use Rattle.sf_crew.specs.declared.benches.handles.Owner.{Owner}
pub use Rattle.sf_crew.specs.declared.benches.handles.Thief.{Thief}
pub use Rattle.sf_crew.specs.declared.benches.history.End.{End}
pub use Rattle.sf_crew.specs.declared.benches.history.Event.{Event}
pub use Rattle.sf_crew.specs.declared.benches.history.Event.TheVariants.{Got, Put}
pub use Rattle.sf_crew.specs.declared.benches.history.HandleView.{HandleView}
pub use Rattle.sf_crew.specs.declared.board.Tally.{Tally}
pub use Rattle.sf_crew.specs.declared.board.view.BoardKey.{BoardKey}
pub use Rattle.sf_crew.specs.declared.board.view.EnteredSheet.{EnteredSheet}
pub use Rattle.sf_crew.specs.declared.board.view.Note.{Note}
pub use Rattle.sf_crew.specs.declared.board.view.View.{View}
pub use Rattle.sf_crew.specs.declared.workers.Worker.{Worker}
pub use Rattle.sf_crew.specs.declared.workers.hands.Made.{Made}
pub use Rattle.sf_insn.specs.declared.input.Input.{Input}
pub use Rattle.sf_piece.specs.Pieces.{Empty, IsRightWork, PieceData, Settled, Split, StepData, WorkData, children_of}
pub use Rattle.sf_question.specs.QuestionData.{QuestionData}
pub use Rattle.sf_run.specs.Feasible.{feasible_traces}
pub use lib.ListN.{get_elem?}
pub use mathlib.Core.Option.{some}
