pub mod OperandLemmas
