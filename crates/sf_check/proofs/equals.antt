pub mod EqualLemmas
