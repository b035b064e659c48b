pub mod PassingLemmas
