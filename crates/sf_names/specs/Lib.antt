pub mod Names
pub mod Joined
pub mod laws
