pub mod Common
pub mod Faults
pub mod Trees
pub mod Rows
pub mod Shown
pub mod Lines
pub mod Documents
pub mod laws
