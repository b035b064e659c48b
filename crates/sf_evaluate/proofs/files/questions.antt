pub mod AskedLemmas
pub mod PolicyLemmas
