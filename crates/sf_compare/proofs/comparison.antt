pub mod ComparisonLemmas
pub mod PassingLemmas
