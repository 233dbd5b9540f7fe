pub mod TableLaws
pub mod ColumnLaws
pub mod Putting
