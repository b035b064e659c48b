pub mod FindingLemmas
