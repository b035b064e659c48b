pub mod Common
pub mod DiagramLemmas
pub mod RefusalLemmas
