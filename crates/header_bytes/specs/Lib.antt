pub mod Numbers
pub mod Header
pub mod HeaderLaws
pub mod Single
