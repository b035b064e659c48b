pub mod Propagations
