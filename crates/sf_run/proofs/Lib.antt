pub mod Common
pub mod MeetingLemmas
pub mod Steps
pub mod WalkLemmas
