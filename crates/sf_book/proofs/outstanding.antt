pub mod OutstandingLeases
pub mod OutstandingLists
