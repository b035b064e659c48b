-- The names from elsewhere that the specs of this crate use, passed on from one place. Declares nothing.
pub use Rattle.std.specs.BTreeMap.{BTreeMap, get}
pub use Rattle.std.specs.Int.{bit_at}
pub use Rattle.std.specs.List.{range_with_len}
pub use Rattle.std.specs.Ordering.{nat_cmp}
pub use Rattle.sf_behaviour.specs.declared.combining.Bitwise.{Bitwise}
pub use Rattle.sf_behaviour.specs.declared.combining.Bitwise.TheVariants.{And, Choose, Or, Xor}
pub use Rattle.sf_behaviour.specs.declared.effects.Effect.{Effect}
pub use Rattle.sf_behaviour.specs.declared.effects.Effect.TheVariants.{Returns, Sets, Skips, Tests}
pub use Rattle.sf_behaviour.specs.declared.effects.Source.{Source}
pub use Rattle.sf_behaviour.specs.declared.effects.Source.TheVariants.{Constant, Held, Negation, Result}
pub use Rattle.sf_behaviour.specs.declared.shifting.Direction.{Direction}
pub use Rattle.sf_behaviour.specs.declared.shifting.Direction.TheVariants.{Left, Right}
pub use Rattle.sf_behaviour.specs.declared.steps.Step.{Step}
pub use Rattle.sf_behaviour.specs.declared.words.Word.{Word}
pub use Rattle.sf_check.specs.Insns.{successors}
pub use Rattle.sf_check.specs.Programs.{IsLawfulProgram}
pub use Rattle.sf_check.specs.declared.insn.Insn.{Insn}
pub use Rattle.sf_check.specs.declared.insn.Operand.{Operand}
pub use Rattle.sf_diagram.specs.Choices.{chosen_of}
pub use Rattle.sf_diagram.specs.Stores.{IsFull, KeepsStore, StoreData, tree_at}
pub use Rattle.sf_diagram.specs.Trees.{Bits, Tree, value}
pub use Rattle.sf_diagram.specs.declared.fault.Fault.{Fault}
pub use Rattle.sf_diagram.specs.declared.fault.Fault.TheVariants.{Spent}
pub use Rattle.sf_insn.specs.Inputs.{IsInput}
pub use Rattle.sf_insn.specs.Words.{apply, negation_of, passes}
pub use Rattle.sf_insn.specs.declared.input.Input.{Input}
pub use Rattle.sf_insn.specs.declared.ops.BinOp.{BinOp}
pub use Rattle.sf_insn.specs.declared.ops.BinOp.TheVariants.{Div, Lsh, Rsh}
pub use Rattle.sf_insn.specs.declared.ops.Test.{Test}
pub use Rattle.sf_insn.specs.declared.ops.Test.TheVariants.{AnyBit, Equal, Greater, GreaterOrEqual}
pub use Rattle.sf_run.specs.Answers.{IsAnswer, action_bits, action_of, data_bits}
pub use Rattle.sf_run.specs.Machine.{Progress, State, goes, insn_progress, operand_of, returns, returns_of, run_for, stuck}
pub use Rattle.sf_run.specs.declared.action.Answer.{Answer}
