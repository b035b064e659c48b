pub mod Common
pub mod OrderLemmas
