pub mod Common
pub mod WayLemmas
