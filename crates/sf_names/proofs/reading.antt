pub mod NeverSyntax
pub mod SetLemmas
