pub mod Reader
pub mod RefusalLaws
pub mod Single
