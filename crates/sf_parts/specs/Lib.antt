pub mod Words
pub mod Runs
pub mod Parts
pub mod Rows
pub mod Stored
pub mod laws
