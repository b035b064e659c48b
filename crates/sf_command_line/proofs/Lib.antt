pub mod Common
pub mod CommandLineLemmas
