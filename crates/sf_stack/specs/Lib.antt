pub mod Faults
pub mod FaultPlaces
pub mod Filters
pub mod TwoStacks
pub mod Texts
pub mod Equal
pub mod Reaching
pub mod laws
