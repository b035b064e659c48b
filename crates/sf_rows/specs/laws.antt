pub mod TreeLaws
