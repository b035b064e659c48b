pub mod AnswerLemmas
pub mod FormLemmas
pub mod NewerLemmas
