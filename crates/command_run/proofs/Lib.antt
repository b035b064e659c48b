pub mod MemoryLemmas
pub mod FileLemmas
pub mod WordLemmas
pub mod AllowLemmas
pub mod CheckLemmas
pub mod AuditLemmas
