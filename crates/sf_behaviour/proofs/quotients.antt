pub mod QuotientLemmas
