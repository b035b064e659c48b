pub mod FactsLaws
pub mod LearningLaws
pub mod ThenLaws
