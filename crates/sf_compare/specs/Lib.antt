pub mod Comparisons
pub mod Documents
pub mod Upward
