pub mod Table
pub mod ReadingLaws
pub mod EachLaws
pub mod Columns
pub mod PartLaws
pub mod FromLaws
pub mod StepLaws
pub mod Single
