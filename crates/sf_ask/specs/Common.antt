-- The names from elsewhere that the specs of this crate use, passed on from one place. Declares nothing.
pub use Rattle.std.specs.Int.{bit_at}
pub use Rattle.std.specs.List.{range_with_len}
pub use Rattle.std.specs.List.Sorted.{IsNonDecreasingBy}
pub use Rattle.sf_ask.specs.declared.probe.Probe.{Probe}
pub use Rattle.sf_ask.specs.declared.probe.Probes.{Probes}
pub use Rattle.sf_ask.specs.declared.verdict.Reply.{Reply}
pub use Rattle.sf_ask.specs.declared.verdict.Reply.TheVariants.{Allowed, Never, Unsettled}
pub use Rattle.sf_ask.specs.declared.verdict.Verdict.{Verdict}
pub use Rattle.sf_ask.specs.declared.verdict.Verdict.TheVariants.{Clear, Doubt, Hit}
pub use Rattle.sf_book.specs.Books.{BookData, IsSettled, OutstandingData, RegionData, counts_of}
pub use Rattle.sf_book.specs.Partition.{LiesInOne, parts_of}
pub use Rattle.sf_book.specs.Unfoldings.{HaveOneOutcome, IsFringe, IsRegionOf}
pub use Rattle.sf_check.specs.Stacks.{IsPlain}
pub use Rattle.sf_dom.specs.Facts.{AreConfined, Covers, FactsView, HasMasked, LiesIn, NoInput, known_at}
pub use Rattle.sf_dom.specs.Learning.{CantTakeInBy, TakesInBy}
pub use Rattle.sf_dom.specs.Rules.{between, masked}
pub use Rattle.sf_dom.specs.declared.known.Known.{Known}
pub use Rattle.sf_insn.specs.Inputs.{IsInput}
pub use Rattle.sf_insn.specs.declared.input.Input.{Input}
pub use Rattle.sf_piece.specs.OneExecution.{IsExecutionOne}
pub use Rattle.sf_piece.specs.Pieces.{PieceData, is_member}
pub use Rattle.sf_question.specs.Actions.{has_action}
pub use Rattle.sf_question.specs.Breaking.{Breaks, IsInQuestion, IsNumberOf}
pub use Rattle.sf_question.specs.QuestionData.{QuestionData, is_whole, mask_at, range_at}
pub use Rattle.sf_run.specs.declared.action.Action.{Action}
pub use Rattle.sf_run.specs.declared.counts.Counts.{Counts}
pub use Rattle.sf_sym.specs.Pool.{IsPool}
pub use Rattle.sf_sym.specs.declared.pool.Node.{Node}
