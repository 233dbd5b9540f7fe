pub mod HeaderLaws
pub mod PartLaws
pub mod BodyLaws
