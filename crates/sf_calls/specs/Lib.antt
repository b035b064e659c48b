pub mod Numbers
pub mod Calls
pub mod Texts
