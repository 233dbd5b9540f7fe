pub mod Numbers
pub mod Laws
pub mod RefusalLaws
pub mod Single
