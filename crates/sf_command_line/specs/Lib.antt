pub mod CommandLine
pub mod Options
pub mod Terminal
pub mod laws
