pub mod Names
pub mod RefusalLaws
pub mod Single
