pub mod DocumentLemmas
