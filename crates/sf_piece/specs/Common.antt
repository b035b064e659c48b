-- The names from elsewhere that the specs of this crate use, passed on from one place. Declares nothing.
pub use Rattle.std.specs.List.{AllByRecursion, flat_map, list_all}
pub use Rattle.std.specs.declared.cmp.Reverse.{Reverse}
pub use Rattle.sf_check.specs.Insns.{IsInRange, loaded_by}
pub use Rattle.sf_check.specs.Programs.{IsAt, IsLawfulProgram}
pub use Rattle.sf_check.specs.Stacks.{IsLawfulStack, IsPlain}
pub use Rattle.sf_check.specs.declared.insn.Insn.{Insn}
pub use Rattle.sf_check.specs.declared.insn.Insn.TheVariants.{Alu, Branch, Jump, LoadConstant, LoadLength, LoadScratch, LoadWord, LoadXConstant, LoadXLength, LoadXScratch, Negate, ReturnA, ReturnConstant, StoreA, StoreX, Tax, Txa}
pub use Rattle.sf_check.specs.declared.insn.Operand.{Operand}
pub use Rattle.sf_check.specs.declared.insn.Operand.TheVariants.{Constant, X}
pub use Rattle.sf_dom.specs.Backward.{IsPropagatedBack}
pub use Rattle.sf_dom.specs.Facts.{Agrees, Covers, FactsView, IsPlainCondition, KeepsOnly, known_at}
pub use Rattle.sf_dom.specs.Known.{Admits}
pub use Rattle.sf_dom.specs.Learning.{CantGrow, CantLearn, GrowsBy, LearnsBy, StartsBy}
pub use Rattle.sf_dom.specs.Propagation.{Meets}
pub use Rattle.sf_dom.specs.Rules.{IsClosed, Then, number_known}
pub use Rattle.sf_dom.specs.SoundRules.{AreCarried, ForcedIsLearnt}
pub use Rattle.sf_dom.specs.Telling.{IsForcedBy}
pub use Rattle.sf_dom.specs.declared.known.Known.{Known}
pub use Rattle.sf_insn.specs.Inputs.{IsInput}
pub use Rattle.sf_insn.specs.Words.{apply, passes}
pub use Rattle.sf_insn.specs.declared.input.Input.{Input}
pub use Rattle.sf_insn.specs.declared.ops.BinOp.{BinOp}
pub use Rattle.sf_insn.specs.declared.ops.BinOp.TheVariants.{Div}
pub use Rattle.sf_insn.specs.declared.ops.Test.{Test}
pub use Rattle.sf_insn.specs.declared.ops.Test.TheVariants.{AnyBit, Equal}
pub use Rattle.sf_piece.specs.declared.machine.Register.{Register}
pub use Rattle.sf_piece.specs.declared.machine.Register.TheVariants.{A}
pub use Rattle.sf_piece.specs.declared.machine.SymbolicMachine.{SymbolicMachine}
pub use Rattle.sf_piece.specs.declared.machine.Update.{Update}
pub use Rattle.sf_piece.specs.declared.machine.Update.TheVariants.{Load, Scratch, Skip}
pub use Rattle.sf_run.specs.Answers.{Answers, IsAnswer, folded_answer}
pub use Rattle.sf_run.specs.Machine.{Progress, State, goes, insn_progress, met_by, operand_of, return_of, returns, returns_of, run_for, step, stuck, trace_of, with_a, with_x}
pub use Rattle.sf_run.specs.Reachable.{IsReachable}
pub use Rattle.sf_run.specs.Routes.{AreWays, IsRoute, IsWay, IsWholeRoute}
pub use Rattle.sf_run.specs.declared.action.Action.TheVariants.{Allow}
pub use Rattle.sf_run.specs.declared.action.Answer.{Answer}
pub use Rattle.sf_sym.specs.Pool.{ArePlainNodes, IsCondBelow, IsPool, folded_node, is_met, node_at, node_value, same, value_of, values_of}
pub use Rattle.sf_sym.specs.declared.pool.Cond.{Cond}
pub use Rattle.sf_sym.specs.declared.pool.Node.{Node}
pub use Rattle.sf_sym.specs.declared.pool.Node.TheVariants.{Bin, Const, Neg, Word}
pub use Rattle.sf_sym.specs.declared.pool.NodeId.{NodeId}
