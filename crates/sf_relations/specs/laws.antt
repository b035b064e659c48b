pub mod InputLaws
pub mod KeepLaws
pub mod NumberLaws
