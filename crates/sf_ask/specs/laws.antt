pub mod MemberLaws
pub mod OneResultLaws
pub mod QuestionBitsLaws
pub mod SheetLaws
