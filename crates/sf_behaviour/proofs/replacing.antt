pub mod ReplacingLemmas
