pub mod Numbers
pub mod Actions
pub mod QuestionData
pub mod Questions
pub mod Breaking
