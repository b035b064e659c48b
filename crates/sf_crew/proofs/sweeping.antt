pub mod FullLemmas
pub mod Skips
