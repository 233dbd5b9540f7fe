pub mod Sums
pub mod SumLaws
pub mod Single
pub mod Examples
