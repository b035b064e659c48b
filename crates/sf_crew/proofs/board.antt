pub mod Draws
pub mod Joins
pub mod Moves
pub mod OneView
pub mod Sheets
