-- The names from elsewhere that the specs of this crate use, passed on from one place. Declares nothing.
pub use Rattle.sf_insn.specs.Inputs.{IsInput}
pub use Rattle.sf_insn.specs.Words.{apply, negation_of, passes}
pub use Rattle.sf_insn.specs.declared.input.Input.{Input}
pub use Rattle.sf_insn.specs.declared.ops.BinOp.{BinOp}
pub use Rattle.sf_insn.specs.declared.ops.BinOp.TheVariants.{Add, And, Div, Lsh, Mul, Or, Rsh, Sub, Xor}
pub use Rattle.sf_sym.specs.declared.index.Interned.{Interned}
pub use Rattle.sf_sym.specs.declared.pool.Cond.{Cond}
pub use Rattle.sf_sym.specs.declared.pool.Node.{Node}
pub use Rattle.sf_sym.specs.declared.pool.Node.TheVariants.{Bin, Const, Neg, Word}
pub use Rattle.sf_sym.specs.declared.pool.NodeId.{NodeId}
