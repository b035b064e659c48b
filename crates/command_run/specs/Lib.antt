pub mod Memory
pub mod Lines
