pub mod Passing
pub mod ZeroErrors
pub mod Adding
