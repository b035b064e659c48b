pub mod FirstFaults
pub mod Spelled
