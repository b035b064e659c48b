pub mod ContainsLaws
pub mod PathLengthLaws
pub mod ProgramLaws
