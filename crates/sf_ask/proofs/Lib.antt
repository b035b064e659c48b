pub mod Common
pub mod Words
pub mod Confinements
pub mod Leasts
pub mod Searching
pub mod OneVerdict
