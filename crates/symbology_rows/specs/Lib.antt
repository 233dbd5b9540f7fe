pub mod Reader
pub mod Answers
pub mod ReadLaws
pub mod RefusalLaws
pub mod Single
