pub mod ChangesLaws
pub mod ExactLaws
pub mod NameOrderLaws
pub mod PartitionLaws
pub mod PlainLaws
