pub mod AnswerLaws
pub mod CompletionLaws
pub mod FeasibleLaws
pub mod InputLaws
pub mod RouteLaws
pub mod RunLaws
pub mod TraceLaws
