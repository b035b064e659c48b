pub mod Common
pub mod Pool
pub mod Index
pub mod Operands
pub mod laws
