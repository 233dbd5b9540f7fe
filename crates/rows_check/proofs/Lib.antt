pub mod RefusalLaws
pub mod WalkLaws
pub mod SizeLaws
pub mod OrderLaws
