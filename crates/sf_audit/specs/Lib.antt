pub mod Common
pub mod Outcomes
pub mod Reports
pub mod Audits
pub mod Documents
pub mod Expectations
pub mod Summaries
