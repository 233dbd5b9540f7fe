pub mod Row
pub mod RowLaws
pub mod Single
