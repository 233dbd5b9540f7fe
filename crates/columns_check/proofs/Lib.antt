pub mod WalkLaws
pub mod AnswerLaws
