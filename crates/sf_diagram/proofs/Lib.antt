pub mod Common
pub mod TreeLemmas
pub mod SpentLemmas
