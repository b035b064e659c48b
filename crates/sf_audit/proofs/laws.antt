pub mod Exclusive
pub mod OneReport
