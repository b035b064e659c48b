-- The names from elsewhere that the specs of this crate use, passed on from one place. Declares nothing.
pub use Rattle.std.specs.Cmp.{IsTotalOrder, bool_cmp_total}
pub use Rattle.std.specs.Cmp.Lexicographic.{lists_total, slice_cmp}
pub use Rattle.std.specs.List.{AllByRecursion, flat_map, range_with_len}
unfoldable pub use Rattle.std.specs.List.Sorted.{IsStrictlySortedBy}
pub use Rattle.std.specs.Ordering.{bool_cmp, is_eq, match_ordering, ordering_reverse}
pub use Rattle.std.specs.declared.cmp.Ordering.{Ordering}
pub use Rattle.std.specs.declared.cmp.Ordering.TheVariants.{Greater, Less}
pub use Rattle.sf_check.specs.Insns.{IsInRange, loaded_by, stored_by, successors}
pub use Rattle.sf_check.specs.Programs.{IsAt, IsLawfulProgram, IsPath, Stores}
pub use Rattle.sf_check.specs.Stacks.{IsLawfulStack}
pub use Rattle.sf_check.specs.declared.insn.Insn.{Insn}
pub use Rattle.sf_check.specs.declared.insn.Insn.TheVariants.{Alu, Branch, Jump, LoadConstant, LoadLength, LoadScratch, LoadWord, LoadXConstant, LoadXLength, LoadXScratch, Negate, ReturnA, ReturnConstant, StoreA, StoreX, Tax, Txa}
pub use Rattle.sf_check.specs.declared.insn.Operand.{Operand}
pub use Rattle.sf_check.specs.declared.insn.Operand.TheVariants.{Constant, X}
pub use Rattle.sf_insn.specs.Inputs.{IsInput}
pub use Rattle.sf_insn.specs.Words.{apply, negation_of, passes}
pub use Rattle.sf_insn.specs.declared.input.Input.{Input}
pub use Rattle.sf_insn.specs.declared.ops.BinOp.{BinOp}
pub use Rattle.sf_insn.specs.declared.ops.BinOp.TheVariants.{Div, Lsh}
pub use Rattle.sf_insn.specs.declared.ops.Test.TheVariants.{Equal}
pub use Rattle.sf_run.specs.declared.action.Action.{Action}
pub use Rattle.sf_run.specs.declared.action.Action.TheVariants.{Allow, Errno, KillProcess, KillThread, Log, Other, Trace, Trap, UserNotif}
pub use Rattle.sf_run.specs.declared.action.Answer.{Answer}
pub use Rattle.sf_run.specs.declared.fault.Fault.{Fault}
pub use Rattle.sf_run.specs.declared.fault.Fault.TheVariants.{Memory}
pub use Rattle.sf_run.specs.declared.machine.Machine.{Machine}
pub use Rattle.sf_run.specs.declared.machine.Next.{Next}
pub use Rattle.sf_run.specs.declared.machine.Next.TheVariants.{Goes, Returns}
pub use Rattle.sf_run.specs.declared.walking.Meeting.{Meeting}
pub use Rattle.sf_run.specs.declared.walking.Met.{Met}
pub use Rattle.sf_run.specs.declared.walking.Met.TheVariants.{Divided, Returned, Tested}
