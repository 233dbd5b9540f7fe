pub mod Plain
pub mod PlainLaws
pub mod Single
