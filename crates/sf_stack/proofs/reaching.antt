pub mod ReachingLemmas
