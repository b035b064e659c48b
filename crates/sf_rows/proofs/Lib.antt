pub mod Common
pub mod TextLemmas
pub mod RowLemmas
