pub mod Common
pub mod Pairing
pub mod FailureLemmas
pub mod KeptFiles
pub mod KeptLemmas
