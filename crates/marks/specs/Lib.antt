pub mod Marks
pub mod MarkLaws
pub mod Single
