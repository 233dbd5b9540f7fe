pub mod Sheet
pub mod Field
pub mod FieldLaws
pub mod Answers
pub mod RefusalLaws
pub mod Single
