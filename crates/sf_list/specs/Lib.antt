pub mod Listings
pub mod Documents
pub mod Changes
