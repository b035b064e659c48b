pub mod IdentityLemmas
