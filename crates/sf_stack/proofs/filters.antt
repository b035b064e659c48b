pub mod FilterLemmas
