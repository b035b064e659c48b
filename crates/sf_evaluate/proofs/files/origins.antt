pub mod OriginLemmas
