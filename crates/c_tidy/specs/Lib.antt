pub mod Numbers
pub mod RefusalLaws
pub mod Single
