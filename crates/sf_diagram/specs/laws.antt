pub mod KeepLaws
pub mod TreeLaws
