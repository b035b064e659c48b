pub mod GetLemmas
