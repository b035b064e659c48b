pub mod JoinedLaws
pub mod NamesLaws
