pub mod HeaderLaws
pub mod FramingLaws
pub mod StreamLaws
pub mod CutLaws
pub mod Examples
pub mod RefusalLaws
pub mod Single
pub mod AtOnceLaws
