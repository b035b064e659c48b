-- The names from elsewhere that the specs of this crate use, passed on from one place. Declares nothing.
pub use Rattle.std.specs.BTreeMap.{is_at}
pub use Rattle.std.specs.Cmp.{IsTotalOrder, on_total}
pub use Rattle.std.specs.Cmp.Lexicographic.{slice_cmp}
pub use Rattle.std.specs.List.{All, AllByRecursion, slice_get, sum_by}
pub use Rattle.std.specs.List.Sorted.{IsPermutation, IsSortedByKey}
unfoldable pub use Rattle.std.specs.List.Sorted.{IsStrictlySortedBy}
pub use Rattle.std.specs.Map.{keys_of, lookup}
pub use Rattle.std.specs.Option.{option_map, option_map_or}
pub use Rattle.std.specs.Ordering.{bool_cmp, eq_by_cmp, is_eq, is_lt, nat_cmp, ordering_reverse}
pub use Rattle.std.specs.declared.cmp.Ordering.{Ordering}
pub use Rattle.std.specs.declared.cmp.Ordering.TheVariants.{Equal, Greater, Less}
pub use Rattle.sf_book.specs.declared.fault.Fault.{Fault}
pub use Rattle.sf_book.specs.declared.fault.Fault.TheVariants.{Foreign, Memory, Spent, Stale}
pub use Rattle.sf_book.specs.declared.outstanding.LeaseState.{LeaseState}
pub use Rattle.sf_check.specs.Stacks.{IsLawfulStack, IsPlain}
pub use Rattle.sf_check.specs.declared.insn.Insn.{Insn}
pub use Rattle.sf_insn.specs.Inputs.{IsInput}
pub use Rattle.sf_insn.specs.declared.input.Input.{Input}
pub use Rattle.sf_piece.specs.Execution.{HasStep, IsInTree}
pub use Rattle.sf_piece.specs.Pieces.{Empty, IsTrulyNamed, PieceData, Settled, Split, StepData, WorkData, is_member, is_prefix}
pub use Rattle.sf_piece.specs.PlainPieces.{IsPlainPiece}
pub use Rattle.sf_run.specs.Answers.{Answers}
pub use Rattle.sf_run.specs.Feasible.{AreFeasibleTraces, AreInNameOrder, feasible_traces}
pub use Rattle.sf_run.specs.Machine.{trace_of}
pub use Rattle.sf_run.specs.Routes.{IsWholeRoute}
pub use Rattle.sf_run.specs.declared.action.Answer.{Answer}
pub use Rattle.sf_run.specs.declared.counts.Counts.{Counts}
