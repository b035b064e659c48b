pub mod Common
pub mod ListingLemmas
pub mod TraceLemmas
