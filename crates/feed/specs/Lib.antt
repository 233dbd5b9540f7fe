pub mod Feeding
pub mod Single
pub mod AnswerLaws
