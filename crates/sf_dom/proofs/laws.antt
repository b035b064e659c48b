pub mod Carried
pub mod Confined
pub mod Forced
pub mod ForcedTests
pub mod Monotone
pub mod OneResult
