pub mod Growing
pub mod Kept
pub mod Names
pub mod Plain
