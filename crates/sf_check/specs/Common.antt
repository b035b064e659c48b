-- The names from elsewhere that the specs of this crate use, passed on from one place. Declares nothing.
pub use Rattle.std.specs.List.Sorted.{IsNonDecreasing}
pub use Rattle.sf_check.specs.declared.fault.Fault.{Fault}
pub use Rattle.sf_check.specs.declared.fault.Fault.TheVariants.{Code, Empty, Field, Last, Memory, NoFilter, PathLength, Scratch, TooLong, TooMany}
pub use Rattle.sf_check.specs.declared.insn.Insn.{Insn}
pub use Rattle.sf_check.specs.declared.insn.Insn.TheVariants.{Alu, Branch, Jump, LoadConstant, LoadLength, LoadScratch, LoadWord, LoadXConstant, LoadXLength, LoadXScratch, Negate, ReturnA, ReturnConstant, StoreA, StoreX, Tax, Txa}
pub use Rattle.sf_check.specs.declared.insn.Operand.TheVariants.{Constant, X}
pub use Rattle.sf_check.specs.declared.read.Unreadable.{Unreadable}
pub use Rattle.sf_check.specs.declared.read.Unreadable.TheVariants.{BadField, UnknownCode}
pub use Rattle.sf_insn.specs.Spelling.{AreInsns, spelling}
pub use Rattle.sf_insn.specs.Words.{IsOneBit}
pub use Rattle.sf_insn.specs.declared.ops.BinOp.TheVariants.{Add, And, Div, Lsh, Mul, Or, Rsh, Sub, Xor}
pub use Rattle.sf_insn.specs.declared.ops.Test.TheVariants.{AnyBit, Equal, Greater, GreaterOrEqual}
pub use Rattle.sf_insn.specs.declared.raw.RawInsn.{RawInsn}
