pub mod PartLemmas
pub mod StoredLemmas
