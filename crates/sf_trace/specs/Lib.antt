pub mod Common
pub mod Instructions
pub mod Runs
pub mod Texts
pub mod Traces
pub mod CheckDocuments
pub mod TraceDocuments
