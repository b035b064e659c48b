-- The names from elsewhere that the specs of this crate use, passed on from one place. Declares nothing.
pub use Rattle.std.specs.Arc.{arc_slice_items, arc_value}
pub use Rattle.std.specs.Int.{bit_at, trailing_zeros, w32}
pub use Rattle.std.specs.declared.sync.Arc.{Arc}
pub use Rattle.std.specs.declared.sync.ArcSlice.{ArcSlice}
pub use Rattle.sf_dom.specs.declared.guards.Pair.{Pair}
pub use Rattle.sf_dom.specs.declared.known.Known.{Known}
pub use Rattle.sf_dom.specs.declared.numbers.Found.{Found}
pub use Rattle.sf_dom.specs.declared.numbers.Found.TheVariants.{Newer, Nowhere, Older}
pub use Rattle.sf_dom.specs.declared.slots.Slot.{Slot}
pub use Rattle.sf_dom.specs.declared.slots.Slot.TheVariants.{Number}
pub use Rattle.sf_dom.specs.declared.variables.Variable.{Variable}
pub use Rattle.sf_insn.specs.Inputs.{IsInput}
pub use Rattle.sf_insn.specs.Words.{IsOneBit, apply, negation_of, passes}
pub use Rattle.sf_insn.specs.declared.input.Input.{Input}
pub use Rattle.sf_insn.specs.declared.ops.BinOp.{BinOp}
pub use Rattle.sf_insn.specs.declared.ops.BinOp.TheVariants.{Add, And, Div, Lsh, Mul, Or, Rsh, Sub, Xor}
pub use Rattle.sf_insn.specs.declared.ops.Test.{Test}
pub use Rattle.sf_insn.specs.declared.ops.Test.TheVariants.{AnyBit, Equal, Greater, GreaterOrEqual}
pub use Rattle.sf_sym.specs.Operands.{IsSwappable, constant_operand_of}
pub use Rattle.sf_sym.specs.Pool.{ArePlainNodes, Extends, IsCondBelow, IsPool, is_met, node_at, node_value, value_of, values_of}
pub use Rattle.sf_sym.specs.declared.pool.Cond.{Cond}
pub use Rattle.sf_sym.specs.declared.pool.Node.{Node}
pub use Rattle.sf_sym.specs.declared.pool.Node.TheVariants.{Bin, Const, Neg, Word}
pub use Rattle.sf_sym.specs.declared.pool.NodeId.{NodeId}
