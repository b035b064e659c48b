pub mod Needs
pub mod Texts
pub mod Documents
