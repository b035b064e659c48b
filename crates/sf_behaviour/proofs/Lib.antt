pub mod BitLemmas
pub mod Common
pub mod KnowledgeLemmas
pub mod ShiftLemmas
pub mod TellLemmas
pub mod VariableLemmas
