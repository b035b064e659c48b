pub mod Common
pub mod RefusalLemmas
pub mod OneRefusal
