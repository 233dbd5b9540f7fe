pub mod Numbers
pub mod NumberLaws
pub mod RefusalLaws
pub mod Single
